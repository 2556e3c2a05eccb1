-- `send` puts a message behind those held and counts it.
use mathlib.Core.Path.{refl}
use native.Mathlib.Omega.{arith}
use Rattle.words.proofs.Steps.{not_stepped}
use Rattle.lines.specs.Lines.{sent_or_same}
use Rattle.lines.specs.InWords.{line_size, line_in, line_range}
use Rattle.messages.specs.InWords.{message_of}
use Rattle.line_sending.proofs.Boxes.{sent_by, full_step}
use Rattle.line_sending.proofs.send.Goals as goal

pub returns-then-l-ne-WORDS : goal.returns-then-l-ne-WORDS
returns-then-l-ne-WORDS c = not_stepped line_size line_in line_range (sent_or_same (message_of c.args.m)) c.args.l.now c.if-l-ne-WORDS.true

pub returns-then-n-ge-MESSAGES : goal.returns-then-n-ge-MESSAGES
returns-then-n-ge-MESSAGES c = full_step c.args.l.now c.held_word-n.result c.held_word-n.ensures (omega (arith, c.if-n-ge-MESSAGES.true)) (message_of c.args.m)

pub returns : goal.returns
returns c =
    let A = c.args in
    sent_by A.l.now c.if-l-ne-WORDS.false c.held_word-n.result c.held_word-n.ensures c.if-n-ge-MESSAGES.false c.held_word-n.result refl c.put_message.new.w c.put_message.auto.w (message_of A.m) c.put_message.ensures.0 c.put_message.ensures.1 c.store.new.w c.store.ensures
