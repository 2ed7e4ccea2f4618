-- In an image whose verdict is leaks there is a count to set. Assumes nothing.
use Rattle.std.specs.Prelude.{if◌then◌else◌}
use Prim.Native.Nat.{ℕ, zero, suc, ◌+◌, ◌<◌}
use native.Mathlib.Nat.{add-zero, add-suc, suc-add, zero-add, not-suc-le-zero}
use native.Mathlib.Omega.{arith}
use mathlib.Core.Path.{◌≡◌, refl, sym, subst, ◌∙◌}
use mathlib.Core.Bool.{Bool, true, false}
use mathlib.Core.List.{List, [], ◌∷◌}
use lib.Dec.{eqb}
use lib.ListN.{length, get_or, length-append}
use borrow.Author.Tests.{eqb-true}
use Rattle.cuts.proofs.Cell.{mem}
use Rattle.cuts.proofs.Meta.{Sound}
use Rattle.qcow2_spec.specs.Header.{cluster_size, clusters}
use Rattle.qcow2_spec.specs.Counts.{count_of, set_count}
use Rattle.qcow2_spec.specs.References.{figures_of}
use Rattle.qcow2_spec.specs.Check.{verdict, repair_units}
use Rattle.qcow2_spec.specs.Series.{Healthy, Bytes}
use Rattle.qcow2_spec.specs.declared.Verdict.TheVariants.{Sound as IsSound, Leaks}
use Rattle.qcow2_spec.proofs.Facts.{Facts}
use Rattle.qcow2_spec.proofs.Geo.{geo, code}
use Rattle.qcow2_spec.proofs.Verdicts.{healthy-sound, figure_own, refs_own, exact_sound}

-- without a unit, every count is its figure
first-set : (s : List ℕ) (i v : ℕ) (b : Bool) → eqb (count_of s i) v ≡ b → length (if b then [] else set_count s i v ∷ []) ≡ 0 → count_of s i ≡ v
first-set s i v true e h = eqb-true _ _ e
first-set s i v false e h = omega arith

none-set : (s fs : List ℕ) (i k : ℕ) → length (repair_units s fs i k) ≡ 0 → (c : ℕ) → c < k → count_of s (i + c) ≡ get_or fs (i + c) 0
unfolding repair_units
none-set s fs i zero h c l = absurd (not-suc-le-zero l)
none-set s fs i (suc k) h zero l = rw add-zero (first-set s i (get_or fs i 0) _ refl (omega (arith, rw length-append at h)))
none-set s fs i (suc k) h (suc c) l = rw (add-suc, ← suc-add) (none-set s fs (suc i) k (omega (arith, rw length-append at h)) c (omega arith))

module _ (s : List ℕ) (f : Facts s) (m : ℕ) (v : verdict s ≡ Leaks m) where
  pub leaks-sound : Bytes s → Sound (geo s) (code s) (mem (cluster_size s) s)
  unfolding Healthy
  leaks-sound by = healthy-sound s f by (subst Healthy (sym v) tt)

  module _ (k : Sound (geo s) (code s) (mem (cluster_size s) s)) where
    pub some-leak : 0 < length (repair_units s (figures_of s) 0 (clusters s))
    some-leak = go (length (repair_units s (figures_of s) 0 (clusters s))) refl
      where
        go : (n : ℕ) → length (repair_units s (figures_of s) 0 (clusters s)) ≡ n → 0 < n
        go (suc n) e = omega arith
        go zero e =
            let q : IsSound ≡ Leaks m = sym (exact_sound s f k (λ c l. rw zero-add at (none-set s (figures_of s) 0 (clusters s) e c l) ∙ figure_own s f k c l ∙ sym (refs_own s f k c))) ∙ v in
            absurd (let z : ◌≡◌ {A = ℕ} 0 1 = cc in omega arith)
