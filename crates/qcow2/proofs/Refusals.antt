-- What every call answers and leaves where the image is refused. Assumes nothing.
use Rattle.std.specs.Prelude.{Result, Err}
use Prim.Native.Nat.{ℕ}
use mathlib.Core.Path.{◌≡◌, ◌∙◌, sym, ap}
use mathlib.Core.List.{List, []}
use Rattle.units.specs.Plan.{Plan, refused, Done}
use Rattle.units.specs.declared.Ended.{Ended}
use Rattle.units.proofs.Steps.{refusal}
use Rattle.qcow2_spec.specs.declared.Verdict.TheVariants.{Refused as NotChecked}
use Rattle.qcow2_spec.specs.Causes.{answer}
use Rattle.qcow2_spec.specs.Header.{some_lent}
use Rattle.qcow2_spec.specs.Opened.{opened}
use Rattle.qcow2_spec.specs.Guest.{translate, read_number, read_into, found_part, in_place}
use Rattle.qcow2_spec.specs.Runs.{list_runs, runs_into}
use Rattle.qcow2_spec.specs.Store.{clearing, judged, write_plan, discard_plan}
use Rattle.qcow2_spec.specs.References.{scratch_left}
use Rattle.qcow2_spec.specs.Check.{check, repair_plan}
use Rattle.qcow2_spec.proofs.Answered.{answer_some}
use Rattle.qcow2_spec.proofs.Open.{refused-is}
use Rattle.qcow2_header.proofs.Chain.{unless-refused}

module _ (backing s : List ℕ) (k : ℕ) (e : opened (some_lent backing) s ≡ Err k) where
  pub translate-refused : (x : ℕ) → translate backing s x ≡ Err k
  unfolding translate
  translate-refused x = unless-refused backing s k e Err _

  pub number-refused : (t x len : ℕ) → read_number backing s t x len ≡ k
  unfolding read_number
  number-refused t x len = unless-refused backing s k e (λ n. n) _

  pub read-refused : (t x len : ℕ) → Err k ≡ answer (read_number backing s t x len)
  read-refused t x len = answer_some k ((refused-is (some_lent backing) s k e).1) ∙ ap answer (sym (number-refused t x len))

  pub into_refused : (t x : ℕ) (o : List ℕ) → read_into backing s t x o ≡ o
  unfolding read_into
  into_refused t x o = unless-refused backing s k e (λ n. o) _

  pub place-refused : (x : ℕ) → in_place backing s x ≡ []
  unfolding in_place found_part
  place-refused x = rw (translate-refused x)

  pub runs-refused : (x len n : ℕ) → list_runs backing s 0 x len n ≡ Err k
  unfolding list_runs
  runs-refused x len n = unless-refused backing s k e Err _

  pub rows-refused : (x len : ℕ) (o : List ℕ) → runs_into backing s 0 x len o ≡ o
  unfolding runs_into
  rows-refused x len o = unless-refused backing s k e (λ n. o) _

  pub check-refused : (n : ℕ) → check backing s n ≡ NotChecked k
  unfolding check
  check-refused n = unless-refused backing s k e NotChecked _

  pub scratch-refused : (scratch : List ℕ) → scratch_left backing s scratch ≡ scratch
  unfolding scratch_left
  scratch-refused scratch = unless-refused backing s k e (λ n. scratch) _

  pub judged-refused : (p : Plan) → judged backing s p ≡ refused k
  unfolding judged
  judged-refused p = unless-refused backing s k e refused (clearing s p)

  pub write-refused : (x : ℕ) (d : List ℕ) (a : ℕ) (r : Result Ended ℕ) → r ≡ Err k → Done (write_plan backing s x d) a s r s
  unfolding write_plan
  write-refused x d a r q = rw (judged-refused _) (refusal k a s r q)

  pub discard-refused : (g a : ℕ) (r : Result Ended ℕ) → r ≡ Err k → Done (discard_plan backing s g) a s r s
  unfolding discard_plan
  discard-refused g a r q = rw (judged-refused _) (refusal k a s r q)

  pub repair-refused : (n a : ℕ) (r : Result Ended ℕ) → r ≡ Err k → Done (repair_plan backing s n) a s r s
  unfolding repair_plan
  repair-refused n a r q = rw (judged-refused _) (refusal k a s r q)
