-- Bytes of the header that nothing reads: storing there changes no table, no count and no guest byte, and may as well be done first. Assumes nothing.
use mathlib.Core.Path.{◌≡◌, refl, ap, ◌∙◌}
use mathlib.Core.Logic.{◌⊎◌, inl, inr, ◌≢◌}
use mathlib.Core.List.{List, [], ◌∷◌}
use Prim.Native.Nat.{ℕ, zero, suc, ◌+◌, ◌*◌, ◌≤◌, ◌<◌}
use native.Mathlib.Omega.{arith}
use lib.ListN.{length, set}
use lib.Seq.{sets, length-sets}
use Rattle.cuts.proofs.Cell.{Small, Stored, mem}
use Rattle.cuts.proofs.Meta.{Geo, GeoOk, Codec, l1_0}
use Rattle.cuts.proofs.Step.{Quiet, fix_one, quiet_sound, head_step}
use Rattle.cuts.proofs.Call.{Ok, small_sets, next_small, next-stored}

-- ---- two runs of stores that lie apart, in either order
set-swap : (l : List ℕ) (i j a b : ℕ) → i ≢ j → set (set l i a) j b ≡ set (set l j b) i a
set-swap [] i j a b d = refl
set-swap (x ∷ l) zero zero a b d = absurd (d refl)
set-swap (x ∷ l) zero (suc j) a b d = refl
set-swap (x ∷ l) (suc i) zero a b d = refl
set-swap (x ∷ l) (suc i) (suc j) a b d = ap (λ (r : List ℕ). x ∷ r) (set-swap l i j a b (λ e. d (ap suc e)))

set_sets_swap : (bs l : List ℕ) (i j a : ℕ) → i < j → sets (set l i a) j bs ≡ set (sets l j bs) i a
set_sets_swap [] l i j a h = refl
set_sets_swap (b ∷ bs) l i j a h = ap (λ (r : List ℕ). sets r (suc j) bs) (set-swap l i j a b (λ e. omega arith)) ∙ set_sets_swap bs (set l j b) i (suc j) a (omega arith)

pub sets_swap : (vs bs l : List ℕ) (i j : ℕ) → i + length vs ≤ j → sets (sets l i vs) j bs ≡ sets (sets l j bs) i vs
sets_swap [] bs l i j h = refl
sets_swap (v ∷ vs) bs l i j h = sets_swap vs bs (set l i v) (suc i) j (omega arith) ∙ ap (λ (r : List ℕ). sets r (suc i) vs) (set_sets_swap bs l i j v (omega arith))

-- ---- an idle byte of the header influences nothing
module _ (g : Geo) (K : Codec) (ok : GeoOk g K) (m0 : ℕ → ℕ → ℕ) (img : List ℕ) (k : Ok g K m0 img)
    (o : ℕ) (bs : List ℕ) (from : g.idle ≤ o) (to : o + length bs ≤ g.busy) (sm : Small bs) where
  pub idle_store : Ok g K m0 (sets img (0 * g.C + o) bs) × Quiet g K (mem g.C img) (mem g.C (sets img (0 * g.C + o) bs))
  idle_store = (
    record {
      len = length-sets img (0 * g.C + o) bs ∙ k.len;
      small = small_sets bs img (0 * g.C + o) k.small sm;
      sound = quiet_sound g K ok (mem g.C img) k.sound m' small q;
      head = λ x l b. at x l b ∙ k.head x l b;
      table = λ a l. q.keep.rts a l ∙ k.table a l;
      directory = λ a x h l. st.cluster (g.root g.T + a) x l
          (l1_0 g (mem g.C img) _ g.T a (omega arith) h (fix_one g K ok (mem g.C img) k.sound _ (ok.l1in g.T a (omega arith) h)) refl) ∙ k.directory a x h l;
    },
    q,
  )
    where
      fits : o + length bs ≤ g.C
      fits = omega (arith, ok.idle_in)

      m' : ℕ → ℕ → ℕ
      m' = mem g.C (sets img (0 * g.C + o) bs)

      small : (a x : ℕ) → m' a x < 256
      small = next_small g K ok m0 img k 0 o bs ok.npos fits sm

      st : Stored g.C (mem g.C img) m' 0 o bs
      st = next-stored g K ok m0 img k 0 o bs ok.npos fits sm

      q : Quiet g K (mem g.C img) m'
      q = head_step g K ok (mem g.C img) k.sound m' small st.cluster

      at : (x : ℕ) → x < g.C → (x < g.idle) ⊎ (g.busy ≤ x) → m' 0 x ≡ mem g.C img 0 x
      at x l (inl b) = st.before 0 x l (omega arith)
      at x l (inr b) = st.after 0 x l (omega arith)
