-- The verdict by the counts and the marks.
-- Assumes nothing.
use Rattle.std.specs.Prelude.{if◌then◌else◌}
use Prim.Native.Nat.{ℕ}
use mathlib.Core.Path.{◌≡◌, sym, ap, ◌∙◌}
use mathlib.Core.Bool.{true, false}
use mathlib.Core.List.{List}
use lib.Dec.{ltb}
use lib.ListN.{length}
use Rattle.choice.specs.Pick.{first, count}
use Rattle.qcow2_spec.specs.Header.{clusters}
use Rattle.qcow2_spec.specs.References.{l1_entries}
use Rattle.qcow2_spec.specs.Check.{or_else, l1_verdict, wrong_marks, shared_at, short, over, counts_verdict}
use Rattle.qcow2_spec.specs.declared.Verdict.{Verdict}
use Rattle.qcow2_spec.specs.declared.Verdict.TheVariants.{Sound, Leaks, Shared, Short}
use Rattle.qcow2_spec.proofs.Else.{mark_damage, l1_else}
use Rattle.qcow2_bad.specs.Known.{sound}
use Rattle.qcow2_bad.proofs.Tables.{sound-is, sound_else}

-- the verdict on the counts, by what the code has found
pub counts_tell : (s fs : List ℕ) (N a low leaks : ℕ) → length fs ≡ N → N ≡ clusters s → a ≡ first (shared_at s) 0 (clusters s) → low ≡ first (short s fs) 0 (length fs) → leaks ≡ count (over s fs) 0 (length fs)
    → (if ltb a N then Shared a else if ltb low N then Short low else l1_verdict s (wrong_marks s fs) 0 (l1_entries s 0) (if ltb 0 leaks then Leaks leaks else Sound)) ≡ counts_verdict s fs
unfolding counts_verdict
counts_tell s fs N a low leaks h_l h_n ha hl hk = let e = h_l ∙ h_n in rw (h_n, ha, hl, hk, e)

-- ---- a search is made with `Sound` first
module _ (s fs : List ℕ) (v next : Verdict) (e : v ≡ l1_verdict s (wrong_marks s fs) 0 (l1_entries s 0) Sound) where
  marks_else : l1_verdict s (wrong_marks s fs) 0 (l1_entries s 0) next ≡ or_else v next
  marks_else = l1_else s (wrong_marks s fs) (mark_damage s fs) 0 (l1_entries s 0) next ∙ ap (λ (u : Verdict). or_else u next) (sym e)

  -- a wrong mark is found
  pub marks_wrong : sound v ≡ false → v ≡ l1_verdict s (wrong_marks s fs) 0 (l1_entries s 0) next
  marks_wrong h = sym (marks_else ∙ sound_else v next h)

  -- none is
  pub marks-right : sound v ≡ true → next ≡ l1_verdict s (wrong_marks s fs) 0 (l1_entries s 0) next
  marks-right h = sym (marks_else ∙ ap (λ (u : Verdict). or_else u next) (sound-is v h))
