-- Lists of unit stores, of which a cut leaves any sub-list. Assumes nothing.
use mathlib.Core.Path.{◌≡◌, refl, sym, ap, ◌∙◌, subst}
use mathlib.Core.Logic.{◌⊎◌, inl, inr}
use mathlib.Core.Bool.{Bool, true, false}
use mathlib.Core.List.{List, [], ◌∷◌, ◌++◌}
use Prim.Native.Nat.{ℕ, zero, suc, ◌+◌, ◌*◌, ◌<◌}
use native.Mathlib.Nat.{add-suc, suc-add, add-zero, not-suc-le-zero, zero-lt-suc}
use native.Mathlib.Decide.{dec_lt}
use native.Mathlib.Omega.{arith}
use lib.ListN.{length, get_or, set, replicate, get_or-eq_default}
use lib.Seq.{sets, get_or-set_other, set-get_or}
use Rattle.cuts.proofs.Cell.{Small, mem}

-- the bytes bs go to cluster w from offset o on; they may depend on what stands in that cluster then
pub record Store : Type 0 where
  pub w : ℕ
  pub o : ℕ
  pub bs : (ℕ → ℕ) → List ℕ

module _ (C : ℕ) where
  unfoldable pub apply : Store → List ℕ → List ℕ
  apply u img = sets img (u.w * C + u.o) (u.bs (mem C img u.w))

  unfoldable pub apply_all : List Store → List ℕ → List ℕ
  unfolding apply
  apply_all [] img = img
  apply_all (u ∷ us) img = apply_all us (apply u img)

  pub apply_append : (a b : List Store) (img : List ℕ) → apply_all (a ++ b) img ≡ apply_all b (apply_all a img)
  unfolding apply_all
  apply_append [] b img = refl
  apply_append (u ∷ a) b img = apply_append a b (apply u img)

-- one unit for each byte, rising
unfoldable pub fill : ℕ → ℕ → List ℕ → List Store
fill w o [] = []
fill w o (b ∷ bs) = record { w = w; o = o; bs = λ f. b ∷ [] } ∷ fill w (suc o) bs

-- the filled bytes are one run
pub apply-fill : (C w o : ℕ) (bs img : List ℕ) → apply_all C (fill w o bs) img ≡ sets img (w * C + o) bs
unfolding apply_all apply fill
apply-fill C w o [] img = refl
apply-fill C w o (b ∷ bs) img = apply-fill C w (suc o) bs (set img (w * C + o) b) ∙ ap (λ (i : ℕ). sets (set img (w * C + o) b) i bs) (add-suc (w * C) o)

-- the units of a list that are chosen, in the list's order
unfoldable pub picked : List Bool → List Store → List Store
picked [] us = []
picked (c ∷ cs) [] = []
picked (true ∷ cs) (u ∷ us) = u ∷ picked cs us
picked (false ∷ cs) (u ∷ us) = picked cs us

pub picked_nil : (cs : List Bool) → picked cs [] ≡ []
unfolding picked
picked_nil [] = refl
picked_nil (c ∷ cs) = refl

picked_all : (us : List Store) → picked (replicate (length us) true) us ≡ us
unfolding picked
picked_all [] = refl
picked_all (u ∷ us) = ap (λ (vs : List Store). u ∷ vs) (picked_all us)

-- every unit of the list has P
pub data Each (P : Store → Type 0) : List Store → Type 0 where
  none : Each P []
  also : {u : Store} {us : List Store} → P u → Each P us → Each P (u ∷ us)

pub each_append : {P : Store → Type 0} {us vs : List Store} → Each P us → Each P vs → Each P (us ++ vs)
each_append none k = k
each_append (also p h) k = also p (each_append h k)

-- what every unit of a list keeps, its sub-lists keep
pub kept : (C : ℕ) (P : List ℕ → Type 0) {us : List Store} → Each (λ (u : Store). (s : List ℕ) → P s → P (apply C u s)) us → (cs : List Bool) (s : List ℕ) → P s → P (apply_all C (picked cs us) s)
unfolding picked apply_all
kept C P none [] s p = p
kept C P none (c ∷ cs) s p = p
kept C P (also h k) [] s p = p
kept C P (also h k) (true ∷ cs) s p = kept C P k cs _ (h s p)
kept C P (also h k) (false ∷ cs) s p = kept C P k cs s p

-- vs is bs with some bytes left as they are in img from at on
pub record Mix (at : ℕ) (img bs vs : List ℕ) : Type 0 where
  pub len : length vs ≡ length bs
  pub each : (y : ℕ) → y < length bs → (get_or vs y 0 ≡ get_or img (at + y) 0) ⊎ (get_or vs y 0 ≡ get_or bs y 0)

pub small_mix : (at : ℕ) (img bs vs : List ℕ) → Small img → Small bs → Mix at img bs vs → Small vs
small_mix at img bs vs p q m x = go (dec_lt x (length vs))
  where
    one : (get_or vs x 0 ≡ get_or img (at + x) 0) ⊎ (get_or vs x 0 ≡ get_or bs x 0) → get_or vs x 0 < 256
    one (inl e) = rw e (p (at + x))
    one (inr e) = rw e (q x)

    go : Dec (x < length vs) → get_or vs x 0 < 256
    go (yes l) = one (m.each x (omega (arith, m.len)))
    go (no n) = rw (get_or-eq_default vs 0 {n = x} (omega arith)) (zero-lt-suc 255)

abbrev Mixed : (at : ℕ) (img bs t : List ℕ) → Type 0
Mixed at img bs t = (vs : List ℕ) × Mix at img bs vs × (t ≡ sets img at vs)

mixed_old : (at b : ℕ) (img bs t : List ℕ) → Mixed (suc at) img bs t → Mixed at img (b ∷ bs) t
mixed_old at b img bs t h = (
  get_or img at 0 ∷ h.0,
  record { len = ap suc h.1.len; each = go },
  h.2 ∙ ap (λ (l : List ℕ). sets l (suc at) h.0) (sym (set-get_or img at 0)),
)
  where
    go : (y : ℕ) → y < suc (length bs) → (get_or (get_or img at 0 ∷ h.0) y 0 ≡ get_or img (at + y) 0) ⊎ (get_or (get_or img at 0 ∷ h.0) y 0 ≡ get_or (b ∷ bs) y 0)
    go zero l = inl (ap (λ (x : ℕ). get_or img x 0) (sym (add-zero at)))
    go (suc y) l =
        subst (λ (x : ℕ). (get_or h.0 y 0 ≡ get_or img x 0) ⊎ (get_or h.0 y 0 ≡ get_or bs y 0)) (suc-add at y ∙ sym (add-suc at y)) (h.1.each y (omega arith))

mixed_new : (at b : ℕ) (img bs t : List ℕ) → Mixed (suc at) (set img at b) bs t → Mixed at img (b ∷ bs) t
mixed_new at b img bs t h = (b ∷ h.0, record { len = ap suc h.1.len; each = go }, h.2)
  where
    old : (y : ℕ) → get_or (set img at b) (suc at + y) 0 ≡ get_or img (at + suc y) 0
    old y = get_or-set_other img at (suc at + y) b 0 (omega arith) ∙ ap (λ (x : ℕ). get_or img x 0) (suc-add at y ∙ sym (add-suc at y))

    go : (y : ℕ) → y < suc (length bs) → (get_or (b ∷ h.0) y 0 ≡ get_or img (at + y) 0) ⊎ (get_or (b ∷ h.0) y 0 ≡ get_or (b ∷ bs) y 0)
    go zero l = inr refl
    go (suc y) l =
        subst (λ (x : ℕ). (get_or h.0 y 0 ≡ x) ⊎ (get_or h.0 y 0 ≡ get_or bs y 0)) (old y) (h.1.each y (omega arith))

-- a fill of which some bytes are stored stores such bytes
picked-fill : (C w o : ℕ) (bs img : List ℕ) (cs : List Bool) → Mixed (w * C + o) img bs (apply_all C (picked cs (fill w o bs)) img)
unfolding apply_all apply fill picked
picked-fill C w o [] img cs = ([], record { len = refl; each = λ y l. absurd (not-suc-le-zero l) }, ap (λ (us : List Store). apply_all C us img) (picked_nil cs))
picked-fill C w o (b ∷ bs) img [] = mixed_old (w * C + o) b img bs _ (rw add-suc at (picked-fill C w (suc o) bs img []))
picked-fill C w o (b ∷ bs) img (false ∷ cs) = mixed_old (w * C + o) b img bs _ (rw add-suc at (picked-fill C w (suc o) bs img cs))
picked-fill C w o (b ∷ bs) img (true ∷ cs) = mixed_new (w * C + o) b img bs _ (rw add-suc at (picked-fill C w (suc o) bs (set img (w * C + o) b) cs))

-- ---- an epoch, the units between two flushes: what holds whichever of them are stored, and what holds once all are
module _ (C : ℕ) (Mid : List ℕ → Type 0) where
  abbrev pub Epoch : List Store → List ℕ → (List ℕ → Type 0) → Type 0
  Epoch us img Q = ((cs : List Bool) → Mid (apply_all C (picked cs us) img)) × Q (apply_all C us img)

  -- a single unit
  pub epoch_one : (u : Store) (img : List ℕ) (Q : List ℕ → Type 0) → Mid img → Mid (apply C u img) → Q (apply C u img) → Epoch (u ∷ []) img Q
  unfolding apply_all picked
  epoch_one u img Q h k q = (go, q)
    where
      go : (cs : List Bool) → Mid (apply_all C (picked cs (u ∷ [])) img)
      go [] = h
      go (false ∷ cs) = rw (picked_nil cs) h
      go (true ∷ cs) = rw (picked_nil cs) k

  -- a fill
  pub epoch_fill : (w o : ℕ) (bs img : List ℕ) (Q : List ℕ → Type 0) → ((vs : List ℕ) → Mix (w * C + o) img bs vs → Mid (sets img (w * C + o) vs))
      → Q (sets img (w * C + o) bs) → Epoch (fill w o bs) img Q
  epoch_fill w o bs img Q h q = ((λ cs. let r = picked-fill C w o bs img cs in rw r.2 (h r.0 r.1)), rw (apply-fill C w o bs img) q)

  -- a call of one epoch: no unit is left for a second one
  pub epoch_only : (us : List Store) (img : List ℕ) (Q : List ℕ → Type 0) → Epoch us img Q → Epoch us img (λ t. Epoch [] t Q)
  unfolding apply_all
  epoch_only us img Q r = (r.0, ((λ cs. rw (picked_nil cs) (subst (λ (vs : List Store). Mid (apply_all C vs img)) (picked_all us) (r.0 (replicate (length us) true)))), r.1))

  -- or for a first one
  pub epoch_late : (us : List Store) (img : List ℕ) (Q : List ℕ → Type 0) → Epoch us img Q → Epoch [] img (λ t. Epoch us t Q)
  unfolding apply_all picked
  epoch_late us img Q r = ((λ cs. rw (picked_nil cs) (r.0 [])), r)
