-- The words of the sites at their start, one site after another.
use mathlib.Core.Path.{◌≡◌, refl, sym, ap, ap₂, ◌∙◌}
use mathlib.Core.Bool.{true}
use mathlib.Core.List.{List, [], ◌∷◌, ◌++◌, map, map-append}
use Prim.Native.Nat.{ℕ, zero, suc, ◌+◌, ◌*◌}
use native.Mathlib.Omega.{arith}
use native.Mathlib.Numerals.{add-one}
use lib.ListN.{set, replicate}
use Rattle.words.specs.Words.{put, chunks, laid}
use Rattle.lists.specs.Lists.{every}
use Rattle.words.proofs.Parts.{put_here}
use Rattle.words.proofs.Chunks.{chunks_last, chunks_below}
use Rattle.words.proofs.Walks.{laid_in}
use Rattle.lists.proofs.Every.{every_snoc}
use Rattle.timestamp_words.specs.InWords.{stamp_in}
use Rattle.site.specs.Site.{Site}
use Rattle.site.specs.InWords.{site_in, site_range, site_size}
use Rattle.protocol.specs.Steps.{start_site, start_sites}
use Rattle.network_new.specs.New.{Started, StartingNext}

abbrev start_words : ℕ → List ℕ
start_words i = set (set (replicate site_size 0) 1 1) 2 i

start_meant : (i : ℕ) → site_in (start_words i) ≡ start_site i
unfolding site_in stamp_in
start_meant i = refl

start_ranged : (i : ℕ) → site_range (start_words i) ≡ true
unfolding site_range
start_ranged i = refl

start_snoc : (j n : ℕ) → start_sites j (suc n) ≡ start_sites j n ++ (start_site (j + n) ∷ [])
start_snoc j zero = let z : j ≡ j + 0 = omega arith in ap {B = List Site} (λ (k : ℕ). start_site k ∷ []) z
start_snoc j (suc n) =
    let z : suc j + n ≡ j + suc n = omega arith in
    ap {B = List Site} (λ ss. start_site j ∷ ss) (start_snoc (suc j) n ∙ ap {B = List Site} (λ (k : ℕ). start_sites (suc j) n ++ (start_site k ∷ [])) z)

start_last : (i : ℕ) → start_sites 0 (i + 1) ≡ start_sites 0 i ++ (start_site i ∷ [])
start_last i =
    let z : 0 + i ≡ i = omega arith in
    ap (start_sites 0) (add-one i) ∙ start_snoc 0 i ∙ ap {B = List Site} (λ (k : ℕ). start_sites 0 i ++ (start_site k ∷ [])) z

pub none_started : (w : List ℕ) → Started w 0
unfolding chunks
none_started w = record { are = refl; ranged = refl }

-- the words of site i laid behind those before it
module _ (w v : List ℕ) (i at : ℕ) (s : StartingNext w i) (a : at ≡ i * site_size) (e : v ≡ laid w at (start_words i)) where
  start_chunks : chunks site_size (i + 1) v ≡ chunks site_size i w ++ (start_words i ∷ [])
  start_chunks =
      let ys = start_words i in
      let new : List ℕ = put w (i * site_size) site_size ys in
      ap₂ (chunks site_size) (add-one i) (e ∙ laid_in w at ys (omega arith) ∙ ap (λ (j : ℕ). put w j site_size ys) a)
      ∙ chunks_last site_size i new
      ∙ ap₂ {C = List (List ℕ)} (λ (x : List (List ℕ)) (y : List ℕ). x ++ (y ∷ []))
      (chunks_below site_size i w (i * site_size) site_size ys (omega arith) (omega arith) refl)
      (put_here w (i * site_size) site_size ys (omega arith) refl)

  pub one_started : Started v (i + 1)
  one_started =
      record {
        are =
            ap (map site_in) start_chunks
            ∙ map-append site_in (chunks site_size i w) (start_words i ∷ [])
            ∙ ap₂ {C = List Site} (λ (ss : List Site) (x : Site). ss ++ (x ∷ [])) s.so_far.are (start_meant i)
            ∙ sym (start_last i);
        ranged = ap (every site_range) start_chunks ∙ every_snoc site_range (chunks site_size i w) (start_words i) s.so_far.ranged (start_ranged i);
      }
