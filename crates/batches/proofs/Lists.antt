-- Lists of stores, cluster by cluster: what a list leaves in a cluster is what those of its units leave that store there. Assumes nothing.
use mathlib.Core.Path.{◌≡◌, refl, sym, ap, ◌∙◌}
use mathlib.Core.Logic.{◌≢◌}
use mathlib.Core.Bool.{Bool, true, false}
use mathlib.Core.List.{List, [], ◌∷◌}
use Prim.Native.Nat.{ℕ, ◌+◌, ◌-◌, ◌*◌, ◌≤◌, ◌<◌}
use native.Mathlib.Nat.{mul-le-mul_right}
use native.Mathlib.Decide.{ℕ_discrete, dec_lt}
use native.Mathlib.Omega.{arith}
use lib.ListN.{length, get_or, replicate}
use lib.Seq.{length-sets}
use Rattle.cuts.proofs.Cell.{Stored, stored, mem}
use Rattle.cuts.proofs.Run.{Store, apply, apply_all, picked, Each, none, also}

module _ (C N : ℕ) where
  -- a unit that lies in one cluster, and depends on nothing but what stands there
  pub record Fit (u : Store) : Type 0 where
    pub in_n : u.w < N
    pub in_c : (f : ℕ → ℕ) → u.o + length (u.bs f) ≤ C
    pub local : (f f' : ℕ → ℕ) → ((x : ℕ) → x < C → f x ≡ f' x) → u.bs f ≡ u.bs f'

  abbrev pub Whole : List ℕ → Type 0
  Whole s = length s ≡ N * C

  -- cluster k is the same
  abbrev pub Agree : ℕ → List ℕ → List ℕ → Type 0
  Agree k s t = (x : ℕ) → x < C → mem C s k x ≡ mem C t k x

  -- a unit stores into another cluster
  abbrev pub Apart : ℕ → Store → Type 0
  Apart k u = k ≢ u.w

  pub length-apply : (u : Store) (s : List ℕ) → length (apply C u s) ≡ length s
  unfolding apply
  length-apply u s = length-sets s (u.w * C + u.o) (u.bs (mem C s u.w))

  pub store_of : (u : Store) (s : List ℕ) → Fit u → Whole s → Stored C (mem C s) (mem C (apply C u s)) u.w u.o (u.bs (mem C s u.w))
  unfolding apply
  store_of u s f e = stored C s u.w u.o (u.bs (mem C s u.w)) (omega (arith, e, mul-le-mul_right C f.in_n)) (f.in_c (mem C s u.w))

  pub apply-apart : (k : ℕ) (u : Store) (s : List ℕ) → Fit u → Whole s → Apart k u → Agree k (apply C u s) s
  apply-apart k u s f e d x l = (store_of u s f e).cluster k x l d

  -- what a unit leaves in a cluster depends on that cluster alone
  pub apply_agree : (k : ℕ) (u : Store) (s t : List ℕ) → Fit u → Whole s → Whole t → Agree k s t → Agree k (apply C u s) (apply C u t)
  apply_agree k u s t f e h a x l = go (ℕ_discrete k u.w)
    where
      n : ℕ
      n = length (u.bs (mem C s u.w))

      go : Dec (k ≡ u.w) → mem C (apply C u s) k x ≡ mem C (apply C u t) k x
      go (no d) = apply-apart k u s f e d x l ∙ a x l ∙ sym (apply-apart k u t f h d x l)
      go (yes p) = here (dec_lt x u.o) (dec_lt x (u.o + n))
        where
          b : u.bs (mem C s u.w) ≡ u.bs (mem C t u.w)
          b = f.local _ _ (λ y q. rw p at (a y q))

          inside : u.o ≤ x → x < u.o + n → mem C (apply C u s) u.w x ≡ mem C (apply C u t) u.w x
          inside g q =
              let y : x ≡ u.o + (x - u.o) = omega arith in
              ap (mem C (apply C u s) u.w) y ∙ (store_of u s f e).inside (x - u.o) (omega arith)
              ∙ ap (λ (bs : List ℕ). get_or bs (x - u.o) 0) b
              ∙ sym (ap (mem C (apply C u t) u.w) y ∙ (store_of u t f h).inside (x - u.o) (omega (arith, ap (λ (bs : List ℕ). length bs) b)))

          here : Dec (x < u.o) → Dec (x < u.o + n) → mem C (apply C u s) k x ≡ mem C (apply C u t) k x
          here (yes q) r = (store_of u s f e).before k x l q ∙ a x l ∙ sym ((store_of u t f h).before k x l q)
          here (no q) (yes r) = rw p (inside (omega arith) r)
          here (no q) (no r) = (store_of u s f e).after k x l (omega arith) ∙ a x l ∙ sym ((store_of u t f h).after k x l (omega (arith, ap (λ (bs : List ℕ). length bs) b)))

  whole-apply : (u : Store) (s : List ℕ) → Whole s → Whole (apply C u s)
  whole-apply u s e = length-apply u s ∙ e

  pub all_whole : (us : List Store) (s : List ℕ) → Whole s → Whole (apply_all C us s)
  unfolding apply_all
  all_whole [] s e = e
  all_whole (u ∷ us) s e = all_whole us (apply C u s) (whole-apply u s e)

  -- the same for lists
  pub all_apart : (k : ℕ) {us : List Store} → Each Fit us → Each (Apart k) us → (s : List ℕ) → Whole s → Agree k (apply_all C us s) s
  unfolding apply_all
  all_apart k none none s e x l = refl
  all_apart k (also {u} f fs) (also d ds) s e x l = all_apart k fs ds (apply C u s) (whole-apply u s e) x l ∙ apply-apart k u s f e d x l

  pub all_agree : (k : ℕ) {us : List Store} → Each Fit us → (s t : List ℕ) → Whole s → Whole t → Agree k s t → Agree k (apply_all C us s) (apply_all C us t)
  unfolding apply_all
  all_agree k none s t e h a = a
  all_agree k (also {u} f fs) s t e h a = all_agree k fs (apply C u s) (apply C u t) (whole-apply u s e) (whole-apply u t h) (apply_agree k u s t f e h a)

pub each_map : {P Q : Store → Type 0} {us : List Store} → ((u : Store) → P u → Q u) → Each P us → Each Q us
each_map f none = none
each_map f (also {u} p ps) = also (f u p) (each_map f ps)

pub picked-each : {P : Store → Type 0} {us : List Store} (cs : List Bool) → Each P us → Each P (picked cs us)
unfolding picked
picked-each [] h = none
picked-each (c ∷ cs) none = none
picked-each (true ∷ cs) (also p h) = also p (picked-each cs h)
picked-each (false ∷ cs) (also p h) = picked-each cs h

pub picked-whole : (us : List Store) → picked (replicate (length us) true) us ≡ us
unfolding picked
picked-whole [] = refl
picked-whole (u ∷ us) = ap (λ (vs : List Store). u ∷ vs) (picked-whole us)

-- a list is made of two others, each in its own order
pub data Merge : List Store → List Store → List Store → Type 0 where
  empty : Merge [] [] []
  left : {u : Store} {us vs ws : List Store} → Merge us vs ws → Merge (u ∷ us) vs (u ∷ ws)
  right : {v : Store} {us vs ws : List Store} → Merge us vs ws → Merge us (v ∷ vs) (v ∷ ws)

module _ (C N k : ℕ) where
  -- if the units of one of the two lie elsewhere, the other one leaves in cluster k what both do
  pub merge-left : {us vs ws : List Store} → Merge us vs ws → Each (Fit C N) us → Each (Fit C N) vs → Each (Apart C N k) vs → (s : List ℕ) → Whole C N s
      → Agree C N k (apply_all C ws s) (apply_all C us s)
  unfolding apply_all
  merge-left empty f h d s e x l = refl
  merge-left (left {u} m) (also f fs) h d s e x l = merge-left m fs h d (apply C u s) (length-apply C N u s ∙ e) x l
  merge-left (right {v} m) f (also h hs) (also d ds) s e x l =
      merge-left m f hs ds (apply C v s) (length-apply C N v s ∙ e) x l
      ∙ all_agree C N k f (apply C v s) s (length-apply C N v s ∙ e) e (apply-apart C N k v s h e d) x l

  pub merge-right : {us vs ws : List Store} → Merge us vs ws → Each (Fit C N) us → Each (Fit C N) vs → Each (Apart C N k) us → (s : List ℕ) → Whole C N s
      → Agree C N k (apply_all C ws s) (apply_all C vs s)
  unfolding apply_all
  merge-right empty f h d s e x l = refl
  merge-right (right {v} m) f (also h hs) d s e x l = merge-right m f hs d (apply C v s) (length-apply C N v s ∙ e) x l
  merge-right (left {u} m) (also f fs) h (also d ds) s e x l =
      merge-right m fs h ds (apply C u s) (length-apply C N u s ∙ e) x l
      ∙ all_agree C N k h (apply C u s) s (length-apply C N u s ∙ e) e (apply-apart C N k u s f e d) x l
