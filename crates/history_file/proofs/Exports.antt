-- The records of a state written one after another, what leads them and the trailer behind them, and what an export answers.
use mathlib.Core.Path.{◌≡◌, refl, sym, ap, ap₂, ◌∙◌}
use mathlib.Core.Bool.{true, false}
use mathlib.Core.List.{List, [], ◌∷◌, ◌++◌, append_assoc, append-nil}
use Prim.Native.Nat.{ℕ, ◌+◌, ◌-◌, ◌/◌, ◌≤◌, ◌<◌}
use native.Mathlib.Omega.{arith}
use lib.ListN.{length, get_or, take, drop, length-append, drop_of_length-le, take-append-drop}
use borrow.Author.Tests.{lt-ltb, le-ltb}
use Rattle.words.specs.Words.{put}
use Rattle.words.proofs.Parts.{put_length}
use Rattle.limits.specs.Limits.{sites_most, records_most}
use Rattle.placement.specs.Places.{InGroup}
use Rattle.placement.proofs.Groups.{group_places}
use Rattle.records.specs.Records.{Record}
use Rattle.protocol.specs.Network.{Network, no_record}
use Rattle.protocol.proofs.WellShaped.{shape_parts}
use Rattle.network_layout.specs.InWords.{network_in, shaped, meaning}
use Rattle.network_layout.proofs.Assembled.{parts_of, range_parts}
use Rattle.network_layout.proofs.Performs.{sites_count, records_few, shaped_range, shaped_well}
use Rattle.history_file.specs.Bytes.{byte, joined}
use Rattle.history_file.specs.File.{History, history_of, record_bytes, lead, flag, trailer, trailer_size, body, file_of}
use Rattle.history_file.specs.Promises.{export_of}
use Rattle.history_file.proofs.Written.{put_next, joined_append, joined_next, joined_all}

-- ---- the records
module _ (hs : List Record) (i : ℕ) (less : i < length hs) where
  abbrev this : List ℕ
  this = record_bytes (get_or hs i no_record)

  body_next : joined record_bytes (take (i + 1) hs) ≡ joined record_bytes (take i hs) ++ this
  body_next = joined_next record_bytes hs i no_record less

  module _ (at s : ℕ) (ats : at ≡ length (joined record_bytes (take i hs))) (ss : s ≡ length (this)) where
    pub body_more : at + s ≡ length (joined record_bytes (take (i + 1) hs))
    body_more = ap₂ (λ (x y : ℕ). x + y) ats ss ∙ sym (ap length body_next ∙ length-append (joined record_bytes (take i hs)) (this))

    pub body_room : at + s ≤ length (joined record_bytes hs)
    body_room =
        let whole : joined record_bytes (take (i + 1) hs) ++ joined record_bytes (drop (i + 1) hs) ≡ joined record_bytes hs
        = sym (joined_append record_bytes (take (i + 1) hs) (drop (i + 1) hs)) ∙ ap (joined record_bytes) (take-append-drop (i + 1) hs) in
        omega (arith, body_more, ap length whole, length-append (joined record_bytes (take (i + 1) hs)) (joined record_bytes (drop (i + 1) hs)))

    pub body_put : (b w ys : List ℕ) → length b ≡ length (joined record_bytes hs) → w ≡ joined record_bytes (take i hs) ++ drop at b → ys ≡ this
        → put w at (at + s - at) ys ≡ joined record_bytes (take (i + 1) hs) ++ drop (at + s) b
    body_put b w ys long e' ye =
        put_next b (joined record_bytes (take i hs)) ys w at s (at + s - at) e' (sym ats) (omega arith)
        ∙ ap (λ (x : List ℕ). x ++ drop (at + s) b) (ap (λ (y : List ℕ). joined record_bytes (take i hs) ++ y) ye ∙ sym body_next)

    pub body_put_length : (b w ys : List ℕ) → length b ≡ length (joined record_bytes hs) → length w ≡ length b → ys ≡ this → length (put w at (at + s - at) ys) ≡ length b
    body_put_length b w ys long lw ye =
        put_length w at (at + s - at) ys (omega (arith, body_room)) (ap length ye ∙ sym ss ∙ (let z : s ≡ at + s - at = omega arith in z)) ∙ lw

pub body_done : (hs : List Record) (i at : ℕ) → length hs ≤ i → at ≡ length (joined record_bytes (take i hs)) → at ≡ length (joined record_bytes hs)
body_done hs i at h e = e ∙ ap length (joined_all record_bytes hs i h)

pub body_all : (hs : List Record) (i at : ℕ) → length hs ≤ i → at ≡ length (joined record_bytes (take i hs)) → (b w : List ℕ) → length b ≡ length (joined record_bytes hs) → w ≡ joined record_bytes (take i hs) ++ drop at b
    → w ≡ joined record_bytes hs
body_all hs i at h e b w long we =
    we
    ∙ ap₂ (λ (x y : List ℕ). x ++ y) (joined_all record_bytes hs i h) (drop_of_length-le b {i = at} (omega (arith, body_done hs i at h e)))
    ∙ append-nil (joined record_bytes hs)

-- ---- the trailer, sixteen bytes copied over sixteen
pub trailer_copied : (d out : List ℕ) (n k s i f a b c p q r t u v w x : ℕ) → length d ≡ trailer_size
    → out ≡ (0x53 ∷ (0x45 ∷ (0x41 ∷ (0x54 ∷ (a ∷ (b ∷ (c ∷ (p ∷ (q ∷ (r ∷ (t ∷ (u ∷ (v ∷ (w ∷ (x ∷ (0 ∷ [])))))))))))))))) ++ drop trailer_size d
    → a ≡ byte n → b ≡ byte (n / 256) → c ≡ byte (n / 256 / 256) → p ≡ byte (n / 256 / 256 / 256)
    → q ≡ byte k → r ≡ byte (k / 256) → t ≡ byte (k / 256 / 256) → u ≡ byte (k / 256 / 256 / 256)
    → v ≡ byte s → w ≡ byte i → x ≡ byte f → out ≡ trailer n k s i f
unfolding trailer
trailer_copied d out n k s i f a b c p q r t u v w x size e ea eb ec ep eq er et eu ev ew ex =
    e
    ∙ ap (λ (l : List ℕ). (0x53 ∷ (0x45 ∷ (0x41 ∷ (0x54 ∷ (a ∷ (b ∷ (c ∷ (p ∷ (q ∷ (r ∷ (t ∷ (u ∷ (v ∷ (w ∷ (x ∷ (0 ∷ [])))))))))))))))) ++ l) (drop_of_length-le d {i = trailer_size} (omega arith))
    ∙ (λ y. 0x53 ∷ (0x45 ∷ (0x41 ∷ (0x54 ∷ (ea y ∷ (eb y ∷ (ec y ∷ (ep y ∷ (eq y ∷ (er y ∷ (et y ∷ (eu y ∷ (ev y ∷ (ew y ∷ (ex y ∷ (0 ∷ []))))))))))))))))

pub trailer_length : (n k s i f : ℕ) → length (trailer n k s i f) ≡ trailer_size
unfolding trailer
trailer_length n k s i f = refl

-- ---- a file: what leads it, its records and its trailer
abbrev pub trailer_of : History → ℕ → List ℕ
trailer_of h distance = trailer (length h.records) distance h.sites h.items (flag h)

pub file_length : (h : History) → length (file_of h) ≡ length (lead h) + (length (body h) + trailer_size)
unfolding file_of
file_length h =
    let d = length (lead h) + (length (body h) + trailer_size) in
    length-append (lead h) (body h ++ trailer_of h d)
    ∙ ap (λ (k : ℕ). length (lead h) + k) (length-append (body h) (trailer_of h d) ∙ ap (λ (k : ℕ). length (body h) + k) (trailer_length (length h.records) d h.sites h.items (flag h)))

-- written one after another over exactly its bytes, of which n lead it and m - n are those of its records
module _ (h : History) (b : List ℕ) (n m : ℕ) (ns : n ≡ length (lead h)) (ms : m ≡ n + length (body h)) (size : length b ≡ m + trailer_size) where
  module _ (xs : List ℕ) (xi : xs ≡ lead h) where
    led : put b 0 (n - 0) xs ≡ xs ++ drop n b
    led = let whole : n - 0 ≡ n = omega arith in ap (λ (k : ℕ). xs ++ drop k b) whole

    module _ (ys : List ℕ) (yi : ys ≡ body h) where
      abbrev filled : List ℕ
      filled = put (put b 0 (n - 0) xs) n (m - n) ys

      filled_is : filled ≡ (xs ++ ys) ++ drop m b
      filled_is =
          put_next b xs ys (put b 0 (n - 0) xs) n (m - n) (m - n) led (ap length xi ∙ sym ns) refl ∙ (let z : n + (m - n) ≡ m = omega arith in ap (λ (k : ℕ). (xs ++ ys) ++ drop k b) z)

      both : length (xs ++ ys) ≡ m
      both = length-append xs ys ∙ (let z : length xs + length ys ≡ m = omega (arith, ap length xi, ap length yi) in z)

      pub file_written : (zs : List ℕ) (e : ℕ) → e ≡ m + trailer_size → zs ≡ trailer_of h e → put filled m (e - m) zs ≡ file_of h
      unfolding file_of
      file_written zs e es zi =
          let far : e ≡ length (lead h) + (length (body h) + trailer_size) = omega arith in
          put_next b (xs ++ ys) zs filled m (e - m) (e - m) filled_is both refl
          ∙ ap (λ (x : List ℕ). ((xs ++ ys) ++ zs) ++ x) (drop_of_length-le b {i = m + (e - m)} (omega arith))
          ∙ append-nil ((xs ++ ys) ++ zs)
          ∙ append_assoc xs ys zs
          ∙ (λ t. xi t ++ (yi t ++ (zi ∙ ap (trailer_of h) far) t))

-- ---- the places of a well-shaped state
module _ (w : List ℕ) (e : shaped w ≡ true) where
  abbrev group : Network
  group = network_in w

  pub state_few : length group.sites ≤ sites_most
  unfolding parts_of
  state_few = omega (arith, sites_count w, (range_parts w (shaped_range w e)).few_sites)

  pub state_some : 1 ≤ length group.sites
  unfolding parts_of
  state_some = omega (arith, sites_count w, (range_parts w (shaped_range w e)).some_sites)

  pub state_places : InGroup (length group.sites) group.items
  state_places = group_places (length group.sites) group.items state_few (shape_parts group (shaped_well w e)).placed

  pub few_records : length group.history ≤ records_most
  few_records = records_few w (shaped_range w e)

-- ---- an export
module _ (w b : List ℕ) where
  pub export_unshaped : shaped w ≡ false → export_of (meaning w) b ≡ record { number = 6; size = 0; buffer = b }
  unfolding export_of meaning
  export_unshaped e = rw e

  module _ (e : shaped w ≡ true) (n : ℕ) (ns : n ≡ length (file_of (history_of (network_in w)))) where
    abbrev whole : List ℕ
    whole = file_of (history_of (network_in w))

    pub export_short : length b < n → export_of (meaning w) b ≡ record { number = 25; size = 0; buffer = b }
    unfolding export_of meaning
    export_short h = rw (e, lt-ltb (length b) (length whole) (omega arith))

    pub export_done : n ≤ length b → (file : List ℕ) → file ≡ whole → export_of (meaning w) b ≡ record { number = 0; size = n; buffer = put b 0 (n - 0) file }
    unfolding export_of meaning
    export_done h file fi =
        let same_size : n - 0 ≡ n = omega arith in
        rw (e, le-ltb (length b) (length whole) (omega arith))
        ((λ t. record { number = 0; size = sym ns t; buffer = sym fi t ++ drop (sym ns t) b }) ∙ (λ t. record { number = 0; size = n; buffer = file ++ drop (sym same_size t) b }))
