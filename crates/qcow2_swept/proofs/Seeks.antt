-- What a sweep looks for: bad entries alone with kinds that set no bits, and common ones too where it sets bits.
-- Assumes nothing.
use Rattle.std.specs.Prelude.{if◌then◌else◌}
use Prim.Native.Nat.{ℕ, suc}
use mathlib.Core.Path.{◌≡◌, refl, ap, ap₂, fun_ext}
use mathlib.Core.Logic.{◌≢◌}
use mathlib.Core.Bool.{Bool, true, false, not, ◌&&◌, ◌||◌, and-true}
use mathlib.Core.List.{List, [], ◌∷◌}
use native.Mathlib.Omega.{arith}
use borrow.Author.Tests.{ne_eqb}
use lib.Dec.{eqb}
use lib.ListN.{length}
use Rattle.choice.specs.Pick.{all}
use Rattle.window.specs.Window.{bit_kind}
use Rattle.qcow2_spec.specs.Header.{version, cluster_size}
use Rattle.qcow2_spec.specs.Entries.{place, good_l1, good_l2}
use Rattle.qcow2_spec.specs.References.{l2_entries}
use Rattle.qcow2_spec.specs.Check.{Seek, l2_verdict, entry_verdict, l1_verdict, bad_in}
use Rattle.qcow2_spec.specs.declared.Verdict.{Verdict}
use Rattle.qcow2_spec.specs.declared.Verdict.TheVariants.{Sound, BadL1, BadL2}
use Rattle.qcow2_spec.proofs.Marks.{own_row}
use Rattle.qcow2_sweep.specs.Sweeps.{passes_by}
use Rattle.qcow2_sweep.proofs.Entries.{else_passes}
use Rattle.qcow2_swept.specs.Rows.{passes_l1_by, seek_by}

-- ---- kinds that set no bits
passes_l1_lem : (kind C n e : ℕ) → kind ≢ bit_kind → passes_l1_by kind C n e ≡ good_l1 C n e
unfolding passes_l1_by
passes_l1_lem kind C n e k = rw (ne_eqb kind bit_kind k) (and-true (good_l1 C n e))

seek_by-is : (kind : ℕ) (s : List ℕ) (t : ℕ) → kind ≢ bit_kind → seek_by kind s t ≡ bad_in s t
unfolding seek_by bad_in
seek_by-is kind s t k =
    let a : passes_l1_by kind (cluster_size s) (length s) ≡ good_l1 (cluster_size s) (length s) = fun_ext (λ e. passes_l1_lem kind (cluster_size s) (length s) e k) in
    let b : passes_by kind (version s) (cluster_size s) (length s) ≡ good_l2 (version s) (cluster_size s) (length s) = fun_ext (λ e. else_passes kind (version s) (cluster_size s) (length s) e k) in
    ap₂ (λ (f g : ℕ → Bool). record { good1 = f; good2 = g; bad1 = λ i. BadL1 t i; bad2 = λ i j. BadL2 t i j }) a b

pub seek_by-bad : (kind : ℕ) (s : List ℕ) (t i : ℕ) (es : List ℕ) (next : Verdict) → kind ≢ bit_kind → l1_verdict s (seek_by kind s t) i es next ≡ l1_verdict s (bad_in s t) i es next
seek_by-bad kind s t i es next k = ap (λ (w : Seek). l1_verdict s w i es next) (seek_by-is kind s t k)

-- ---- the kind that sets bits
-- a search that names nothing: every entry passes, with all entries below it
module _ (s : List ℕ) (w : Seek) (d₁ : (i : ℕ) → w.bad1 i ≢ Sound) (d₂ : (i j : ℕ) → w.bad2 i j ≢ Sound) where
  abbrev passes_all : ℕ → Bool
  passes_all e = w.good1 e && (eqb (place e) 0 || all w.good2 (l2_entries s (place e)))

  l2_all : (i j : ℕ) (es : List ℕ) (next : Verdict) → l2_verdict w i j es next ≡ Sound → (all w.good2 es ≡ true) × (next ≡ Sound)
  unfolding l2_verdict
  l2_all i j [] next h = (refl, h)
  l2_all i j (e ∷ es) next h = go (w.good2 e) h (l2_all i (suc j) es next)
    where
      go : (g : Bool) → (if g then l2_verdict w i (suc j) es next else w.bad2 i j) ≡ Sound
          → (l2_verdict w i (suc j) es next ≡ Sound → (all w.good2 es ≡ true) × (next ≡ Sound)) → ((g && all w.good2 es) ≡ true) × (next ≡ Sound)
      go true k r = r k
      go false k r = absurd (d₂ i j k)

  entry-all : (i e : ℕ) (next : Verdict) → entry_verdict s w i e next ≡ Sound → (passes_all e ≡ true) × (next ≡ Sound)
  unfolding entry_verdict
  entry-all i e next h = go (w.good1 e) (eqb (place e) 0) h
    where
      es : List ℕ
      es = l2_entries s (place e)

      go : (g z : Bool) → (if not g then w.bad1 i else if z then next else l2_verdict w i 0 es next) ≡ Sound → ((g && (z || all w.good2 es)) ≡ true) × (next ≡ Sound)
      go false z k = absurd (d₁ i k)
      go true true k = (refl, k)
      go true false k = l2_all i 0 es next k

  l1_all : (i : ℕ) (es : List ℕ) → l1_verdict s w i es Sound ≡ Sound → all passes_all es ≡ true
  unfolding l1_verdict
  l1_all i [] h = refl
  l1_all i (e ∷ es) h = let r = entry-all i e (l1_verdict s w (suc i) es Sound) h in rw r.0 (l1_all (suc i) es r.1)

-- what a sweep names is not sound
row_damage : (t i : ℕ) → BadL1 t i ≢ Sound
row_damage t i h = let z : ◌≡◌ {A = ℕ} 0 1 = cc in omega arith

below_damage : (t i j : ℕ) → BadL2 t i j ≢ Sound
below_damage t i j h = let z : ◌≡◌ {A = ℕ} 0 1 = cc in omega arith

pub seek_by-own : (s : List ℕ) (t i : ℕ) (es : List ℕ) → l1_verdict s (seek_by bit_kind s t) i es Sound ≡ Sound → all (own_row s) es ≡ true
unfolding seek_by passes_l1_by passes_by
seek_by-own s t i es h = l1_all s (seek_by bit_kind s t) (row_damage t) (below_damage t) i es h
