-- What lies in an image lies in the longest. Assumes nothing.
use Prim.Native.Nat.{ℕ, ◌≤◌}
use native.Mathlib.Omega.{arith}
use Rattle.widths.specs.Width.{Inside}
use Rattle.qcow2_spec.specs.Header.{most_length}
use Rattle.qcow2_jobs.specs.Jobs.{JobIn, FreedIn}
use Rattle.qcow2_jobs.specs.declared.finding.Job.{Job}
use Rattle.qcow2_jobs.specs.declared.finding.Job.TheVariants.{Bytes, Marked, New, Table}
use Rattle.qcow2_jobs.specs.declared.releasing.Freed.{Freed}
use Rattle.qcow2_jobs.specs.declared.releasing.Freed.TheVariants.{Entry, Both}

module _ (n : ℕ) (h : n ≤ most_length) where
  inside-most : {r k : ℕ} → Inside r n k → Inside r most_length k
  inside-most i = record { few = i.few; aligned = i.aligned; fits = omega (arith, i.fits) }

  pub job_most : (c : ℕ) (j : Job) → JobIn n c j → JobIn most_length c j
  job_most c (Bytes p) l = omega arith
  job_most c (Marked a p) l = (omega (arith, l.0), omega (arith, l.1))
  job_most c (New m r k a p) l = (inside-most l.0, (omega (arith, l.1.0), omega (arith, l.1.1)))
  job_most c (Table p) l =
      record {
        tablecounted = inside-most l.tablecounted;
        tabled = omega (arith, l.tabled);
        counted = inside-most l.counted;
        inside = omega (arith, l.inside);
        entered = omega (arith, l.entered);
        linked = omega (arith, l.linked);
        short = omega arith;
      }

  pub freed-most : (f : Freed) → FreedIn n f → FreedIn most_length f
  freed-most (Entry a x) l = omega arith
  freed-most (Both a x r k v) l = (omega (arith, l.0), inside-most l.1)
