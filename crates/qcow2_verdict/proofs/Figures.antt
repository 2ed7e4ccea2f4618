-- The figures of a scratch, and the judging of clusters by them.
-- Assumes nothing.
use Prim.Native.Nat.{ℕ, ◌*◌}
use mathlib.Core.Path.{◌≡◌, ap}
use mathlib.Core.List.{List}
use native.Mathlib.Omega.{arith}
use lib.ListN.{length}
use Rattle.tally.specs.States.{twos as twos_from}
use Rattle.tally.proofs.Counting.{counting_first}
use Rattle.packed_twos.specs.Twos.{twos, many, figures_in}
use Rattle.qcow2_spec.specs.Check.{short, over}
use Rattle.qcow2_figures.specs.Known.{Judging}
use Rattle.qcow2_figures.proofs.Compares.{length-figures}

-- the figures of so many clusters
pub figures_are : (f : List ℕ) (m : ℕ) → length f ≡ 2 * m → twos_from f 0 m ≡ figures_in f
unfolding twos
figures_are f m e = let k : m ≡ many f = omega (arith, e) in ap (twos_from f 0) k

pub length-is : (f : List ℕ) (m : ℕ) → length f ≡ 2 * m → length (figures_in f) ≡ m
length-is f m e = omega (arith, length-figures f, e)

-- no cluster is judged yet
pub judging_first : (s f : List ℕ) (m : ℕ) → length f ≡ 2 * m → Judging s (figures_in f) 0 (record { low = m; over = 0 })
judging_first s f m e = rw (length-is f m e) (counting_first (short s (figures_in f)) (over s (figures_in f)) m)
