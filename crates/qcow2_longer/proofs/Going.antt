-- A run over the new blocks on the way, and what a cut of it leaves. Assumes nothing.
use Prim.Native.Nat.{ℕ, zero, suc, ◌+◌, ◌≤◌, ◌<◌}
use native.Mathlib.Nat.{le_refl}
use native.Mathlib.Decide.{ℕ_discrete}
use native.Mathlib.Omega.{arith}
use mathlib.Core.Path.{◌≡◌, refl, sym, ap, ◌∙◌, subst}
use mathlib.Core.Logic.{◌⊎◌, inl, inr, ◌≢◌}
use mathlib.Core.Bool.{Bool}
use mathlib.Core.List.{List, [], ◌∷◌, ◌++◌, append_assoc}
use lib.Dec.{eqb}
use lib.ListN.{length, length-append}
use borrow.Author.Tests.{eq-eqb, ne_eqb}
use Rattle.choice.proofs.Tests.{if_yes, if_no}
use Rattle.endian.specs.Big.{be64}
use Rattle.tally.specs.Tally.{run}
use Rattle.units.specs.Units.{UnitStore, entry, apply, apply_all, fill}
use Rattle.units.proofs.Laws.{apply_all_append, length-fill}
use Rattle.qcow2_spec.specs.Header.{cluster_size, blocks, block_at}
use Rattle.qcow2_spec.specs.Rough.{roughly}
use Rattle.qcow2_spec.proofs.Rough.{roughly_nil}
use Rattle.qcow2_longer.specs.Extend.{old_blocks, new_place, new_block, to_make, make_block, make_blocks}
use Rattle.qcow2_longer.proofs.Between.{slot, New, Room, Made, Between, AllMade, SomeLeft}
use Rattle.qcow2_longer.proofs.Fields.{fields}
use Rattle.qcow2_longer.proofs.Stores.{Only, only_sets, Inside, inside_only, fill_sets, Cut, rough_cut}
use Rattle.qcow2_longer.proofs.Made.{Cleared, Filled, length-new_block, small-new_block, fill-cleared, fill-entry, fill-made, fill_between, fill-filled, entry-cleared, entry-entry, entry_kept, entry-made, entry_between}

-- a run on t has come to block i and left u: the new blocks before i are made, and the later entries are as on t
pub record Going (s : List ℕ) (old : ℕ) (t : List ℕ) (i : ℕ) (u : List ℕ) : Type 0 where
  pub between : Between s old u
  pub cleared : Cleared s u
  pub made : (j : ℕ) → New s old j → j < i → Made s u j
  pub later : (j : ℕ) → New s old j → i ≤ j → be64 u (slot s j) ≡ be64 t (slot s j)

-- what a units of n leave: all is made, or one block is not
pub record Left (s : List ℕ) (old n a : ℕ) (u : List ℕ) : Type 0 where
  pub between : Between s old u
  pub finished : n ≤ a → AllMade s old u
  pub stopped : a < n → SomeLeft s old u

-- so for every cut of the units us on u
abbrev pub Leaves : (s : List ℕ) (old : ℕ) → List UnitStore → List ℕ → Type 0
Leaves s old us u = (a : ℕ) (cs : List Bool) → Left s old (length us) a (apply_all (roughly us a cs) u)

-- the units that fill new block i
abbrev pub filling : List ℕ → ℕ → List UnitStore
filling s i = fill (new_place s i) (new_block s)

module _ {s : List ℕ} {old : ℕ} (r : Room s old) {t : List ℕ} (b : Between s old t) where
  -- ---- the units of one block
  pub make_block-some : (i : ℕ) → be64 t (slot s i) ≡ 0 → make_block t i ≡ filling s i ++ entry (slot s i) (new_place s i) ∷ []
  unfolding make_block to_make
  make_block-some i e =
      if_yes (eqb (block_at t i) 0) _ [] (eq-eqb (block_at t i) 0 ((fields r b).block_at_is i ∙ e))
      ∙ rw ((fields r b).new_place-is i, (fields r b).new_block-is, (fields r b).table_at_is) refl

  pub make_block-none : (i : ℕ) → be64 t (slot s i) ≢ 0 → make_block t i ≡ []
  unfolding make_block to_make
  make_block-none i d = if_no (eqb (block_at t i) 0) _ [] (ne_eqb (block_at t i) 0 (λ e. d (sym ((fields r b).block_at_is i) ∙ e)))

  -- ---- one block further
  module _ (i : ℕ) (n : New s old i) {u : List ℕ} (g : Going s old t i u) where
    -- it is there
    going_past : be64 t (slot s i) ≢ 0 → Going s old t (suc i) u
    going_past d = record { between = g.between; cleared = g.cleared; made = λ j m l. go j m l (ℕ_discrete j i); later = λ j m l. g.later j m (omega arith) }
      where
        there : (be64 u (slot s i) ≡ 0) ⊎ Made s u i → Made s u i
        there (inl e) = absurd (d (sym (g.later i n (le_refl i)) ∙ e))
        there (inr m) = m

        go : (j : ℕ) → New s old j → j < suc i → Dec (j ≡ i) → Made s u j
        go j m l (yes q) = rw q (there (g.between.each i n))
        go j m l (no q) = g.made j m (omega arith)

    module _ (e : be64 t (slot s i) ≡ 0) where
      -- some of its bytes are stored
      going_cut : (us : List UnitStore) → Inside (new_place s i) (cluster_size s) us → Between s old (apply_all us u) × SomeLeft s old (apply_all us u)
      going_cut us k =
          let o = inside_only k u g.between.small in
          let f : be64 u (slot s i) ≡ 0 = g.later i n (le_refl i) ∙ e in
          (fill_between r i n o g.between g.cleared f, (i, n, fill-entry r i n o i n ∙ f))

      -- it is made
      going_made : Going s old t (suc i) (apply (entry (slot s i) (new_place s i)) (apply_all (filling s i) u))
      going_made =
          record {
            between = entry_between r v_between i n v_cleared v_filled;
            cleared = entry-cleared r v_between i n v_cleared;
            made = λ j m l. go j m l (ℕ_discrete j i);
            later = λ j m l. entry-entry r v_between i n j m (λ q. omega arith) ∙ fill-entry r i n o j m ∙ g.later j m (omega arith);
          }
        where
          v : List ℕ
          v = apply_all (filling s i) u

          o : Only (new_place s i) (cluster_size s) u v
          o = rw (fill_sets (new_block s) (new_place s i) u) (only_sets (new_place s i) (cluster_size s) u (new_block s) (length-new_block s) g.between.small (small-new_block s))

          v_between : Between s old v
          v_between = fill_between r i n o g.between g.cleared (g.later i n (le_refl i) ∙ e)

          v_cleared : Cleared s v
          v_cleared = fill-cleared r i n o g.cleared

          v_filled : Filled s v i
          v_filled = fill-filled r u i n g.between.len

          go : (j : ℕ) → New s old j → j < suc i → Dec (j ≡ i) → Made s (apply (entry (slot s i) (new_place s i)) v) j
          go j m l (yes q) = rw q (entry-made r v_between i n v_filled)
          go j m l (no q) = entry_kept r v_between i n j m q (fill-made r i n o j m q (g.made j m (omega arith)))

  -- ---- the units of all blocks from i on
  made-left : (i : ℕ) (n : New s old i) (u : List ℕ) → Going s old t i u → be64 t (slot s i) ≡ 0 → (vs : List UnitStore)
      → Leaves s old vs (apply (entry (slot s i) (new_place s i)) (apply_all (filling s i) u)) → Leaves s old (filling s i ++ entry (slot s i) (new_place s i) ∷ vs) u
  unfolding apply_all
  made-left i n u g e vs h a cs =
      go (rough_cut (new_place s i) (cluster_size s) (slot s i) (new_place s i) vs (new_block s) (new_place s i) a cs (le_refl (new_place s i)) (omega (arith, length-new_block s)) (small-new_block s))
    where
      us : List UnitStore
      us = filling s i ++ entry (slot s i) (new_place s i) ∷ vs

      many : length us ≡ length (new_block s) + suc (length vs)
      many = length-append (filling s i) (entry (slot s i) (new_place s i) ∷ vs) ∙ ap (λ (k : ℕ). k + suc (length vs)) (length-fill (new_block s) (new_place s i))

      past : (c : ℕ) → a ≡ length (new_block s) + suc c → Left s old (length vs) c (apply_all (roughly vs c cs) (apply (entry (slot s i) (new_place s i)) (apply_all (filling s i) u)))
          → Left s old (length us) a (apply_all (roughly vs c cs) (apply (entry (slot s i) (new_place s i)) (apply_all (filling s i) u)))
      past c q l = record { between = l.between; finished = λ k. l.finished (omega (arith, many)); stopped = λ k. l.stopped (omega (arith, many)) }

      go : Cut (new_place s i) (cluster_size s) (slot s i) (new_place s i) vs (new_block s) (new_place s i) a cs → Left s old (length us) a (apply_all (roughly us a cs) u)
      go (inl k) =
          let c = going_cut i n g e (roughly us a cs) k.1 in
          record { between = c.0; finished = λ l. absurd (omega (arith, many, k.0)); stopped = λ l. c.1 }
      go (inr k) =
          subst (λ (ws : List UnitStore). Left s old (length us) a (apply_all ws u)) (sym k.2)
          (rw (apply_all_append (filling s i)) (past k.0 k.1 (h k.0 cs)))

  block_left : (i : ℕ) (n : New s old i) (u : List ℕ) → Going s old t i u → (vs : List UnitStore) → ((v : List ℕ) → Going s old t (suc i) v → Leaves s old vs v)
      → Leaves s old (make_block t i ++ vs) u
  block_left i n u g vs h = go (ℕ_discrete (be64 t (slot s i)) 0)
    where
      go : Dec (be64 t (slot s i) ≡ 0) → Leaves s old (make_block t i ++ vs) u
      go (yes e) =
          subst (λ (us : List UnitStore). Leaves s old us u) (sym (ap (λ (us : List UnitStore). us ++ vs) (make_block-some i e) ∙ append_assoc (filling s i) (entry (slot s i) (new_place s i) ∷ []) vs))
          (made-left i n u g e vs (h _ (going_made i n g e)))
      go (no d) = subst (λ (us : List UnitStore). Leaves s old (us ++ vs) u) (sym (make_block-none i d)) (h u (going_past i n g d))

  pub blocks-left : (k i : ℕ) (u : List ℕ) → old_blocks s old ≤ i → i + k ≡ blocks s → Going s old t i u → Leaves s old (make_blocks t (run i k)) u
  unfolding run make_blocks apply_all
  blocks-left zero i u l e g a cs =
      subst (λ (us : List UnitStore). Left s old 0 a (apply_all us u)) (sym (roughly_nil a cs))
      (record { between = g.between; finished = λ h j n. g.made j n (omega (arith, n.1)); stopped = λ h. absurd (omega arith) })
  blocks-left (suc k) i u l e g a cs =
      block_left i (l, omega arith) u g (make_blocks t (run (suc i) k)) (λ v h. blocks-left k (suc i) v (omega arith) (omega arith) h) a cs
