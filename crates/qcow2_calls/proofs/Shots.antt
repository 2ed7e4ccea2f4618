-- What a read of a snapshot that is not there answers and leaves. Assumes nothing.
use Prim.Native.Nat.{ℕ, suc, ◌≤◌}
use native.Mathlib.Omega.{arith}
use mathlib.Core.Path.{◌≡◌, sym, ◌∙◌}
use mathlib.Core.List.{List}
use borrow.Author.Tests.{le-leb}
use lib.ListN.{length}
use Rattle.qcow2_spec.specs.declared.Geometry.{Geometry}
use Rattle.qcow2_spec.specs.Header.{roots}
use Rattle.qcow2_spec.specs.Opened.{Active}
use Rattle.qcow2_spec.specs.Guest.{outside, range_number, range_into}
use Rattle.qcow2_spec.proofs.Facts.{facts, root-count}
use Rattle.qcow2_guest.proofs.Numbers.{into_refused}

module _ (g : Geometry) (s : List ℕ) (o : Active g s) (k x : ℕ) (h : g.snapshots ≤ k) where
  pub shot_none : (len : ℕ) → range_number s (suc k) x len ≡ 11
  unfolding range_number outside
  shot_none len = rw (le-leb (roots s) (suc k) (omega (arith, root-count s (facts s o.0.accepted), o.0.is-snapshots)))

  pub shot_kept : (backing out : List ℕ) → range_into backing s (suc k) x out ≡ out
  shot_kept backing out = into_refused backing s (suc k) x out (λ z. let e : ◌≡◌ {A = ℕ} 11 0 = sym (shot_none (length out)) ∙ z in omega arith)
