-- `called` goes by the letter's number.
use mathlib.Core.Path.{◌≡◌, sym, ap}
use mathlib.Core.List.{List}
use Prim.Native.Nat.{ℕ}
use lib.ListN.{get_or}
use Rattle.script_notation.specs.Fields.{fields_from}
use Rattle.script_notation.specs.Parse.{called as calledBy}
use Rattle.script_notation.proofs.Replying.{answered_none, answered_as, no_letter}
use Rattle.script_line.proofs.called.Goals as goal

-- a letter's call, by its number
letter : (text : List ℕ) (k : ℕ) → get_or text 0 0 ≡ k → calledBy k (fields_from text 2) ≡ calledBy (get_or text 0 0) (fields_from text 2)
letter text k e = ap (λ (b : ℕ). calledBy b (fields_from text 2)) (sym e)

pub returns-in-112 : goal.returns-in-112
unfolding calledBy
returns-in-112 c = answered_as (letter c.args.text.now 112 c.in-112.is) c.set_up.ensures

pub returns-in-99 : goal.returns-in-99
unfolding calledBy
returns-in-99 c = answered_as (letter c.args.text.now 99 c.in-99.is) c.commit.ensures

pub returns-in-100 : goal.returns-in-100
unfolding calledBy
returns-in-100 c = answered_as (letter c.args.text.now 100 c.in-100.is) c.at_site.ensures

pub returns-in-101 : goal.returns-in-101
unfolding calledBy
returns-in-101 c = answered_as (letter c.args.text.now 101 c.in-101.is) c.of_two.ensures

pub returns-in-108 : goal.returns-in-108
unfolding calledBy
returns-in-108 c = answered_as (letter c.args.text.now 108 c.in-108.is) c.of_two-in-108.ensures

pub returns-in-115 : goal.returns-in-115
unfolding calledBy
returns-in-115 c = answered_as (letter c.args.text.now 115 c.in-115.is) c.at_site-in-115.ensures

pub returns-in_default : goal.returns-in_default
returns-in_default c =
    let T = c.args.text.now in
    let r = c.in_default.in_default-own.rest in
    answered_none _ c.args.state.now (no_letter (get_or T 0 0) (fields_from T 2) r.0.0.0.0.0.1 r.0.0.0.0.1 r.0.0.0.1 r.0.0.1 r.0.1 r.1) c.requires.formed_is c.question.ensures
