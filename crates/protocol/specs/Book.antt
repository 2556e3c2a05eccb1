-- The book of the calls: what they say of timestamps and commits when nothing is known of state or history. Of a round it notes the calls that it counts as.
use Rattle.std.specs.Prelude.{Bool, cond, List, [], ◌∷◌, ◌++◌, ℕ, zero, suc, get_or, set}
use Rattle.timestamp_order.specs.Timestamp.{Stamp, raised, with_epoch, appended, own_count}
use Rattle.records.specs.Records.{Record}
use Rattle.protocol.specs.Network.{no_stamp}
use Rattle.protocol.specs.Steps.{ops_of}
use Rattle.protocol.specs.Calls.{Call, set_up, commit, dummy, epoch, deliver, schedule, collect, round, ask}

-- a timestamp per site, and the commits in the order made, removed ones too: site, timestamp, the operations as lent
pub record Book : Type 0 where
  pub stamps : List Stamp
  pub commits : List Record

abbrev pub no_book : Book
no_book = record { stamps = []; commits = [] }

abbrev pub book_stamp : Book → ℕ → Stamp
book_stamp b i = get_or b.stamps i no_stamp

abbrev pub with_stamp : Book → ℕ → Stamp → Book
with_stamp b i t = record { stamps = set b.stamps i t; commits = b.commits }

abbrev pub with_commit : Book → Record → Book
with_commit b c = record { stamps = b.stamps; commits = b.commits ++ (c ∷ []) }

-- epoch 0 with the own tuple at count 0, for n sites from site i on
abbrev pub start_stamps : ℕ → ℕ → List Stamp
start_stamps i zero = []
start_stamps i (suc n) = record { epoch = 0; tuples = record { site = i; count = 0 } ∷ [] } ∷ start_stamps (suc i) n

-- an accepted call; `answered` is the timestamp that it answered, which a schedule alone looks at. A round is noted by the calls that it counts as.
unfoldable pub noted : Call → Stamp → Book → Book
noted (set_up sites items ps ms) answered b = record { stamps = start_stamps 0 sites; commits = [] }
noted (commit i ks is vs) answered b =
    let t = raised (book_stamp b i) in
    with_commit (with_stamp b i t) (record { site = i; stamp = t; ops = ops_of ks is vs })
noted (dummy i) answered b = with_stamp b i (raised (book_stamp b i))
noted (epoch i e) answered b = with_stamp b i (with_epoch (book_stamp b i) e)
noted (deliver p c) answered b = b
noted collect answered b = b
noted round answered b = b
noted (ask q) answered b = b
noted (schedule j) answered b = with_stamp b j (appended answered j (own_count (book_stamp b j)))

-- a call, whether it was accepted, and the timestamp it answered
abbrev pub noted_if : Call → Bool → Stamp → Book → Book
noted_if c accepted answered b = cond accepted (noted c answered b) b
