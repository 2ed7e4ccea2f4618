-- Laws of the verdict: a bad entry first, then what the counts show.
-- Assumes nothing.
use Rattle.std.specs.Prelude.{if◌then◌else◌}
use Prim.Native.Nat.{ℕ, suc, ◌*◌}
use mathlib.Core.Path.{◌≡◌, refl, sym, ap, ◌∙◌}
use mathlib.Core.Bool.{Bool, true, false, not, ◌&&◌, ◌||◌, true≢false}
use mathlib.Core.List.{List, [], ◌∷◌}
use lib.Dec.{eqb}
use lib.ListN.{length, drop}
use Rattle.choice.specs.Pick.{all}
use Rattle.endian.proofs.Entries.{be64-drop}
use Rattle.qcow2_spec.specs.Header.{version, cluster_size, snapshots, roots, root_size, root_at}
use Rattle.qcow2_spec.specs.Entries.{place, good_l1, good_l2}
use Rattle.qcow2_spec.specs.References.{l1_entries, l2_entries, figures_of}
use Rattle.qcow2_spec.specs.Check.{or_else, table_good, entry_good, l2_verdict, entry_verdict, l1_verdict, bad_in, roots_verdict, counts_verdict, verdict}
use Rattle.qcow2_spec.specs.declared.Verdict.{Verdict}
use Rattle.qcow2_spec.specs.declared.Verdict.TheVariants.{Sound, BadL1, BadL2}
use Rattle.qcow2_spec.proofs.Else.{roots_else}
use Rattle.qcow2_spec.proofs.Facts.{all-entries}
use Rattle.qcow2_refs.specs.Walks.{row_at}
use Rattle.qcow2_bad.specs.Known.{sound}
use Rattle.qcow2_bad.proofs.Tables.{sound-is, sound_else}
use Rattle.qcow2_verdict.specs.Marks.{AllGood}

-- a search is made with `Sound` first
module _ (s : List ℕ) (v : Verdict) (e : v ≡ roots_verdict s 0 (roots s) Sound) where
  verdict_else : verdict s ≡ or_else v (counts_verdict s (figures_of s))
  unfolding verdict
  verdict_else =
      let next : Verdict = counts_verdict s (figures_of s) in
      roots_else s 0 (roots s) next ∙ ap (λ (u : Verdict). or_else u next) (sym e)

  -- a bad entry is found
  pub verdict-bad : sound v ≡ false → v ≡ verdict s
  verdict-bad h = sym (verdict_else ∙ sound_else v (counts_verdict s (figures_of s)) h)

  -- none is
  pub verdict-good : sound v ≡ true → counts_verdict s (figures_of s) ≡ verdict s
  verdict-good h = sym (verdict_else ∙ ap (λ (u : Verdict). or_else u (counts_verdict s (figures_of s))) (sound-is v h))

-- ---- where no bad entry is found, all are good
module _ (s : List ℕ) where
  abbrev good2 : ℕ → Bool
  good2 = good_l2 (version s) (cluster_size s) (length s)

  below-sound : (i j : ℕ) (es : List ℕ) (next : Verdict) → l2_verdict (bad_in s 0) i j es next ≡ Sound → (all good2 es ≡ true) × (next ≡ Sound)
  unfolding l2_verdict bad_in
  below-sound i j [] next h = (refl, h)
  below-sound i j (e ∷ es) next h = go (good2 e) h (below-sound i (suc j) es next)
    where
      go : (b : Bool) → (if b then l2_verdict (bad_in s 0) i (suc j) es next else BadL2 0 i j) ≡ Sound
          → (l2_verdict (bad_in s 0) i (suc j) es next ≡ Sound → (all good2 es ≡ true) × (next ≡ Sound)) → ((b && all good2 es) ≡ true) × (next ≡ Sound)
      go true g k = k g
      go false g k = absurd (true≢false (sym (ap sound g)))

  entry-sound : (i e : ℕ) (next : Verdict) → entry_verdict s (bad_in s 0) i e next ≡ Sound → (entry_good s e ≡ true) × (next ≡ Sound)
  unfolding entry_verdict bad_in entry_good table_good
  entry-sound i e next h = go (good_l1 (cluster_size s) (length s) e) (eqb (place e) 0) h
    where
      go : (a b : Bool) → (if not a then BadL1 0 i else if b then next else l2_verdict (bad_in s 0) i 0 (l2_entries s (place e)) next) ≡ Sound
          → ((a && (b || all good2 (l2_entries s (place e)))) ≡ true) × (next ≡ Sound)
      go false b g = absurd (true≢false (sym (ap sound g)))
      go true true g = (refl, g)
      go true false g = below-sound i 0 (l2_entries s (place e)) next g

  rows-sound : (i : ℕ) (es : List ℕ) (next : Verdict) → l1_verdict s (bad_in s 0) i es next ≡ Sound → all (entry_good s) es ≡ true
  unfolding l1_verdict
  rows-sound i [] next h = refl
  rows-sound i (e ∷ es) next h =
      let k = entry-sound i e (l1_verdict s (bad_in s 0) (suc i) es next) h in
      rw k.0 (rows-sound (suc i) es next k.1)

  pub sound-all : roots_verdict s 0 (roots s) Sound ≡ Sound → all (entry_good s) (l1_entries s 0) ≡ true
  unfolding roots_verdict roots
  sound-all h = rows-sound 0 (l1_entries s 0) (roots_verdict s 1 (snapshots s) Sound) h

  sound-good : roots_verdict s 0 (roots s) Sound ≡ Sound → AllGood s
  unfolding l1_entries row_at
  sound-good h i l = rw (be64-drop s (root_at s 0) (8 * i)) at (all-entries (entry_good s) (root_size s 0) (drop (root_at s 0) s) (sound-all h) i l)

pub all-good : (s : List ℕ) (v : Verdict) → v ≡ roots_verdict s 0 (roots s) Sound → sound v ≡ true → AllGood s
all-good s v e h = sound-good s (sym e ∙ sound-is v h)
