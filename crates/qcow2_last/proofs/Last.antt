-- The last portion's verdict by what the code has found.
-- Assumes nothing.
use Rattle.std.specs.Prelude.{if◌then◌else◌}
use Prim.Native.Nat.{ℕ, ◌*◌, ◌≤◌}
use mathlib.Core.Path.{◌≡◌, refl, sym, ap, ◌∙◌}
use mathlib.Core.Bool.{true, false}
use mathlib.Core.List.{List}
use lib.Dec.{ltb}
use lib.ListN.{length, drop}
use borrow.Author.Tests.{le-ltb}
use Rattle.choice.specs.Pick.{all, first, count}
use Rattle.endian.proofs.Entries.{be64-drop}
use Rattle.qcow2_spec.specs.Header.{clusters, root_size, root_at}
use Rattle.qcow2_spec.specs.References.{l1_entries}
use Rattle.qcow2_spec.specs.Check.{or_else, entry_good, shared_at, short, over}
use Rattle.qcow2_spec.specs.declared.Verdict.{Verdict}
use Rattle.qcow2_spec.specs.declared.Verdict.TheVariants.{Sound, Leaks, Shared, Short}
use Rattle.qcow2_spec.proofs.Facts.{all-entries}
use Rattle.qcow2_refs.specs.Walks.{row_at}
use Rattle.qcow2_verdict.specs.Marks.{AllGood}
use Rattle.qcow2_bad.specs.Known.{sound}
use Rattle.qcow2_bad.proofs.Tables.{sound-is, sound_else}
use Rattle.qcow2_portions.specs.Last.{marks_verdict, last_verdict}
use Rattle.qcow2_portions.proofs.Last.{marks-next}

-- by the lowest shared cluster, the lowest short one and the number leaking
pub last_tell : (s fs : List ℕ) (N a low leaks : ℕ) → length fs ≡ N → N ≡ clusters s → a ≡ first (shared_at s) 0 (clusters s) → low ≡ first (short s fs) 0 (length fs) → leaks ≡ count (over s fs) 0 (length fs)
    → (if ltb a N then Shared a else if ltb low N then Short low else marks_verdict s fs (if ltb 0 leaks then Leaks leaks else Sound)) ≡ last_verdict s fs
unfolding last_verdict
last_tell s fs N a low leaks h_l h_n ha hl hk = let e = h_l ∙ h_n in rw (h_n, ha, hl, hk, e)

-- nothing is shared
pub last_unshared : (s fs : List ℕ) (N low leaks : ℕ) → length fs ≡ N → N ≡ clusters s → clusters s ≤ first (shared_at s) 0 (clusters s) → low ≡ first (short s fs) 0 (length fs) → leaks ≡ count (over s fs) 0 (length fs)
    → (if ltb low N then Short low else marks_verdict s fs (if ltb 0 leaks then Leaks leaks else Sound)) ≡ last_verdict s fs
last_unshared s fs N low leaks h_l h_n ha hl hk =
    let e : ltb (first (shared_at s) 0 (clusters s)) N ≡ false = rw h_n (le-ltb (first (shared_at s) 0 (clusters s)) (clusters s) ha) in
    rw e at (last_tell s fs N (first (shared_at s) 0 (clusters s)) low leaks h_l h_n refl hl hk)

-- a search for wrong marks is made with `Sound` first
module _ (s fs : List ℕ) (v next : Verdict) (e : v ≡ marks_verdict s fs Sound) where
  pub marks_wrong : sound v ≡ false → v ≡ marks_verdict s fs next
  marks_wrong h = sym (marks-next s fs next ∙ ap (λ (u : Verdict). or_else u next) (sym e) ∙ sound_else v next h)

  pub marks-right : sound v ≡ true → next ≡ marks_verdict s fs next
  marks-right h = sym (marks-next s fs next ∙ ap (λ (u : Verdict). or_else u next) (sym e) ∙ ap (λ (u : Verdict). or_else u next) (sound-is v h))

-- entries that are all good, one by one
pub good-rows : (s : List ℕ) → all (entry_good s) (l1_entries s 0) ≡ true → AllGood s
unfolding l1_entries row_at
good-rows s h i l = rw (be64-drop s (root_at s 0) (8 * i)) at (all-entries (entry_good s) (root_size s 0) (drop (root_at s 0) s) h i l)

-- a bad entry comes first
pub found_first : (v next : Verdict) → sound v ≡ false → v ≡ or_else v next
found_first v next h = sym (sound_else v next h)

pub found_none : (v next : Verdict) → sound v ≡ true → next ≡ or_else v next
found_none v next h = sym (ap (λ (u : Verdict). or_else u next) (sound-is v h))
