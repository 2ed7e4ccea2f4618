-- Laws of counts that are judged step by step. Assumes nothing.
use Prim.Native.Nat.{ℕ, ◌+◌, ◌-◌, ◌*◌, ◌/◌, ◌^◌, ◌<◌, min}
use native.Mathlib.Nat.{add-zero, mul-zero}
use native.Mathlib.Omega.{arith}
use mathlib.Core.Path.{◌≡◌, ap}
use mathlib.Core.List.{List}
use Rattle.tally.specs.declared.Counted.{Counted}
use Rattle.qcow2_counts.specs.Blocks.{Packed}
use Rattle.qcow2_counts.proofs.Blocks.{packed-part}
use Rattle.qcow2_block.specs.declared.Judge.{Judge}
use Rattle.qcow2_figures.specs.Known.{Judged}
use Rattle.qcow2_block.specs.Steps.{Goes, judged_on, ahead}

-- a step of k clusters
module _ (order : ℕ) (s : List ℕ) (base m : ℕ) (w : Judge) (g : Goes order s base m w) (l : w.done < m) (k : ℕ) (is : k ≡ min w.step (m - w.done)) where
  pub step-packed : Packed order s (base + w.done) k (8 * w.at)
  step-packed =
      let e : 8 * w.at ≡ 8 * w.at + 2 ^ order * 0 = omega (arith, mul-zero (2 ^ order)) in
      rw add-zero at (packed-part (g.stands l) 0 k (8 * w.at) e (omega arith))

  -- it ends at a byte's first count, unless it is the last
  whole : w.done + k < m → 8 * (w.at + 2 ^ order * (k / 8)) ≡ 8 * w.at + 2 ^ order * k
  whole h =
      let e : k ≡ 8 * (k / 8) = omega (arith, g.eights) in
      let f : 2 ^ order * k ≡ 2 ^ order * (8 * (k / 8)) = ap (λ (x : ℕ). 2 ^ order * x) e in
      let d : 2 ^ order * (8 * (k / 8)) ≡ 8 * (2 ^ order * (k / 8)) = omega arith in
      omega (arith, f, d)

  step_goes : (c : Counted) → Goes order s base m (judged_on order w c k)
  unfolding judged_on
  step_goes c =
      record {
        few = omega arith;
        stands = λ h. let e : base + (w.done + k) ≡ base + w.done + k = omega arith in rw e (packed-part (g.stands l) k _ _ (whole h) (omega arith));
        most = g.most;
        least = g.least;
        eights = g.eights;
      }

  step_less : (c : Counted) → ahead m (judged_on order w c k) < ahead m w
  unfolding judged_on
  step_less c = omega (arith, g.least)

  -- what holds once they are judged
  pub stepped : (f : List ℕ) (c : Counted) (r : Judge) → r ≡ judged_on order w c k → Judged s f (base + w.done + k) c
      → (Goes order s base m r × Judged s f (base + r.done) r.counted) × (ahead m r < ahead m w)
  unfolding judged_on
  stepped f c r e d =
      let a : base + (w.done + k) ≡ base + w.done + k = omega arith in
      rw e ((step_goes c, rw a d), step_less c)

  -- the same clusters, 64 at once
  pub finer_goes : (c : Counted) → Goes order s base m (record { counted = c; done = w.done; at = w.at; step = 64 })
  finer_goes c = record { few = g.few; stands = g.stands; most = omega arith; least = omega arith; eights = omega arith }
