-- Calls one after another on the words of a network: one step, and those that are left, by what the ones before them leave.
use mathlib.Core.Path.{◌≡◌, refl, sym, ap, subst, ◌∙◌}
use mathlib.Core.Bool.{Bool, true, false, cond}
use mathlib.Core.List.{List, [], ◌∷◌, ◌++◌}
use mathlib.Core.Option.{Option, none, some, none-ne-some, some-injective}
use Prim.Native.Nat.{ℕ, suc, ◌+◌, ◌-◌, ◌≤◌, ◌<◌}
use native.Mathlib.Omega.{arith}
use native.Mathlib.Numerals.{add-one}
use lib.IntN.{ℤ}
use lib.ListN.{length, replicate}
use Rattle.lists.specs.Lists.{up_to}
use Rattle.timestamp_order.specs.Timestamp.{Stamp}
use Rattle.protocol.specs.Network.{Network}
use Rattle.protocol.specs.Calls.{Call, perform, AllPass}
use Rattle.protocol.specs.Round.{stepped, walked, one_by_one}
use Rattle.protocol.proofs.Walks.{walked_more, accepted_parts}
use Rattle.network_layout.specs.Layout.{state_size}
use Rattle.network_layout.specs.InWords.{network_in, shaped, meaning}
use Rattle.network_layout.specs.At.{AtNetwork}
use Rattle.network_layout.specs.Promises.{Performed}
use Rattle.network_layout.proofs.Performs.{meaning_some}
use Rattle.network_layout.proofs.OnNetwork.{ranged_on, well_on}
use Rattle.network_hearing.specs.Walked.{Walking, Walked, Left}

-- ---- one step
meaning_on : (w : List ℕ) → AtNetwork w → meaning w ≡ some (network_in w)
meaning_on w net = meaning_some w (network_in w) (ranged_on w net) refl (well_on w net)

meaning_is : (w : List ℕ) (n : Network) → meaning w ≡ some n → (shaped w ≡ true) × (network_in w ≡ n)
unfolding meaning
meaning_is w n e = go (shaped w) refl e
  where
    go : (b : Bool) → shaped w ≡ b → cond b (some (network_in w)) none ≡ some n → (shaped w ≡ true) × (network_in w ≡ n)
    go true h f = (h, some-injective (network_in w) n f)
    go false h f = absurd (none-ne-some n f)

-- what a step promises on the words of a network, and where it is not refused
module _ {c : Call} {w v : List ℕ} {number parent : ℕ} {stamp : Stamp} {values : List ℤ} where
  pub number_on : AtNetwork w → Performed c w v number parent stamp values → number ≡ (perform (some (network_in w)) c).number
  number_on net done = done.number_is ∙ ap (λ (s : Option Network). (perform s c).number) (meaning_on w net)

  pub step_walked : Walking w (c ∷ []) → Performed c w v number parent stamp values → length v ≡ state_size → Walked w v (c ∷ [])
  step_walked walking done size =
      let after : meaning v ≡ some (stepped (network_in w) c) = done.after_is ∙ ap (λ (s : Option Network). (perform s c).after) (meaning_on w walking.net) ∙ walking.accepted.0.after_is in
      let is = meaning_is v (stepped (network_in w) c) after in
      record { net = record { sized = size; formed = is.0 }; meant = is.1 }

-- ---- those that are left
-- all, and none
pub all_left : {w : List ℕ} {cs : List Call} → Walking w cs → Left (walked (network_in w) cs) w cs
all_left walking = record { walking = walking; leads = refl }

pub none_left : {w v : List ℕ} {cs : List Call} → Left (walked (network_in w) cs) v [] → Walked w v cs
none_left left = record { net = left.walking.net; meant = left.leads }

-- what leads where others lead
pub left_on : {end : Network} {w v : List ℕ} {cs ds : List Call} → Left end w cs → Left (walked (network_in w) cs) v ds → Left end v ds
left_on first second = record { walking = second.walking; leads = second.leads ∙ first.leads }

-- some, and then others
module _ {end : Network} {w : List ℕ} where
  pub left_first : (cs ds : List Call) → Left end w (cs ++ ds) → Walking w cs
  left_first cs ds left = record { net = left.walking.net; accepted = (accepted_parts (network_in w) cs ds left.walking.accepted).0 }

  pub left_then : (cs : List Call) (then : Network → List Call) → Left end w (cs ++ then (walked (network_in w) cs)) → (v : List ℕ) → Walked w v cs → Left end v (then (network_in v))
  left_then cs then left v done =
      let n = network_in w in
      let ds = then (walked n cs) in
      record {
        walking = record { net = done.net; accepted = subst (λ (m : Network). AllPass m (then m)) (sym done.meant) (accepted_parts n cs ds left.walking.accepted).1 };
        leads = ap (λ (m : Network). walked m (then m)) done.meant ∙ sym (walked_more n cs ds) ∙ left.leads;
      }

  -- for each of some numbers, of which k is the first
  module _ (calls : Network → ℕ → List Call) (is : List ℕ) (left : Left end w (one_by_one calls (network_in w) is)) (k : ℕ) (rest : List ℕ) (next : is ≡ k ∷ rest) where
    here : Left end w (one_by_one calls (network_in w) (k ∷ rest))
    here = subst (λ (ks : List ℕ). Left end w (one_by_one calls (network_in w) ks)) next left

    pub each_first : Walking w (calls (network_in w) k)
    each_first = left_first (calls (network_in w) k) (one_by_one calls (walked (network_in w) (calls (network_in w) k)) rest) here

    pub each_then : (v : List ℕ) → Walked w v (calls (network_in w) k) → Left end v (one_by_one calls (network_in v) rest)
    each_then = left_then (calls (network_in w) k) (λ m. one_by_one calls m rest) here

  pub each_none : (calls : Network → ℕ → List Call) (is : List ℕ) → is ≡ [] → Left end w (one_by_one calls (network_in w) is) → Left end w []
  each_none calls is empty = subst (λ (ks : List ℕ). Left end w (one_by_one calls (network_in w) ks)) empty

  -- one call as often as k says
  module _ (c : Call) (k : ℕ) (some : 0 < k) (left : Left end w (replicate k c)) where
    once_more : Left end w (c ∷ replicate (k - 1) c)
    once_more = let more : k ≡ suc (k - 1) = omega arith in subst (λ (m : ℕ). Left end w (replicate m c)) more left

    pub again_first : Walking w (c ∷ [])
    again_first = left_first (c ∷ []) (replicate (k - 1) c) once_more

    pub again_then : (v : List ℕ) → Walked w v (c ∷ []) → Left end v (replicate (k - 1) c)
    again_then = left_then (c ∷ []) (λ m. replicate (k - 1) c) once_more

-- ---- numbers in turn
pub numbers_next : (k m : ℕ) → k < m → up_to k (m - k) ≡ k ∷ up_to (k + 1) (m - (k + 1))
numbers_next k m h =
    let more : m - k ≡ suc (m - (k + 1)) = omega arith in
    ap (up_to k) more ∙ ap (λ (i : ℕ). k ∷ up_to i (m - (k + 1))) (sym (add-one k))

pub numbers_none : (k m : ℕ) → m ≤ k → up_to k (m - k) ≡ []
numbers_none k m h = let none : m - k ≡ 0 = omega arith in ap (up_to k) none
