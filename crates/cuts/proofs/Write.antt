-- The lists of a write: what holds after every cut of them. Assumes nothing.
use mathlib.Core.Path.{◌≡◌, refl, sym, ap, ◌∙◌}
use mathlib.Core.Logic.{◌⊎◌, inl, inr, ◌≢◌}
use mathlib.Core.List.{List, [], ◌∷◌, ◌++◌}
use Prim.Native.Nat.{ℕ, zero, suc, ◌+◌, ◌-◌, ◌*◌, ◌/◌, ◌%◌, ◌^◌, ◌≤◌, ◌<◌}
use native.Mathlib.Nat.{mod-lt, zero-lt-suc, add_assoc}
use native.Mathlib.Decide.{ℕ_discrete}
use native.Mathlib.Omega.{arith}
use lib.ListN.{length, get_or}
use lib.Seq.{sets}
use Rattle.cuts.proofs.Refs.{refs_fix, dat_fix}
use Rattle.cuts.proofs.Cell.{num, enc, length-enc, small-enc, Small, Stored, mem}
use Rattle.cuts.proofs.Meta.{Geo, GeoOk, Codec, cnt, row, col, Has, l2, fix, tab, dat, mark, refs_of, Sound, Keep, dat_none, keep_blk, keep_tab, keep_dat, keep_mark, keep_refs, keep_sound, l1_0, fix_l1, tree_in, row_in, row-N}
use Rattle.cuts.proofs.Step.{shown, gread, gread_absent, Quiet, dat_in, fix_one, free-not-0, data_step, link_rt, link_away, link_sound, link_reads, link_zeros, link_read}
use Rattle.cuts.proofs.Run.{Store, apply, apply_all, apply_append, apply-fill, fill, Each, none, also, each_append, kept, Epoch, epoch_one, epoch_fill, small_mix}
use lib.ListN.{replicate, length-replicate, length-append, get_or-append}
use lib.Seq.{get_or-append-add}
use Rattle.cuts.proofs.Cell.{small_append, stored_num, stored-apart}
use Rattle.cuts.proofs.Step.{gread_keep, pair_or, steps_apart}
use native.Mathlib.Nat.{zero-add}
use Rattle.cuts.proofs.Call.{Ok, count_store, entry_store, link_store, away, ok_next, next_small, next-stored, next-free, CountSet, then_count, one-fits, Entered, next-entry, SameGuest}

-- zeros around the data
unfoldable pub around : ℕ → ℕ → List ℕ → List ℕ
around C o bs = replicate o 0 ++ (bs ++ replicate (C - (o + length bs)) 0)

pub length_around : (C o : ℕ) (bs : List ℕ) → o + length bs ≤ C → length (around C o bs) ≡ C
unfolding around
length_around C o bs h =
    simp (length-append, length-replicate) (omega arith)

pub zeros-at : (n x : ℕ) → ◌≡◌ {A = ℕ} (get_or (replicate n 0) x 0) 0
zeros-at zero x = refl
zeros-at (suc n) zero = refl
zeros-at (suc n) (suc x) = zeros-at n x

past-zeros : (o : ℕ) (l : List ℕ) (y : ℕ) → get_or (replicate o 0 ++ l) (o + y) 0 ≡ get_or l y 0
past-zeros o l y = ap (λ (n : ℕ). get_or (replicate o 0 ++ l) (n + y) 0) (sym (length-replicate o 0)) ∙ get_or-append-add (replicate o 0) l y 0

pub around_in : (C o : ℕ) (bs : List ℕ) (y : ℕ) → y < length bs → get_or (around C o bs) (o + y) 0 ≡ get_or bs y 0
unfolding around
around_in C o bs y l = past-zeros o (bs ++ replicate (C - (o + length bs)) 0) y ∙ get_or-append bs (replicate (C - (o + length bs)) 0) 0 y l

pub around_out : (C o : ℕ) (bs : List ℕ) (x : ℕ) → (x < o) ⊎ (o + length bs ≤ x) → get_or (around C o bs) x 0 ≡ 0
unfolding around
around_out C o bs x (inl h) =
    get_or-append (replicate o 0) (bs ++ replicate (C - (o + length bs)) 0) 0 x (rw (length-replicate {A = ℕ} o 0) h) ∙ zeros-at o x
around_out C o bs x (inr h) =
    ap (λ (n : ℕ). get_or (replicate o 0 ++ (bs ++ replicate (C - (o + length bs)) 0)) n 0) e
    ∙ past-zeros o (bs ++ replicate (C - (o + length bs)) 0) (length bs + (x - (o + length bs)))
    ∙ get_or-append-add bs (replicate (C - (o + length bs)) 0) (x - (o + length bs)) 0 ∙ zeros-at (C - (o + length bs)) (x - (o + length bs))
  where
    e : x ≡ o + (length bs + (x - (o + length bs)))
    e = omega arith

pub small-replicate : (n : ℕ) → Small (replicate n 0)
small-replicate zero x = zero-lt-suc 255
small-replicate (suc n) zero = zero-lt-suc 255
small-replicate (suc n) (suc x) = small-replicate n x

pub small_around : (C o : ℕ) (bs : List ℕ) → Small bs → Small (around C o bs)
unfolding around
small_around C o bs p = small_append (replicate o 0) (bs ++ replicate (C - (o + length bs)) 0) (small-replicate o) (small_append bs (replicate (C - (o + length bs)) 0) p (small-replicate (C - (o + length bs))))

-- A is what a new cluster must hold: the data from o on, and around it the bytes that the guest saw
pub record Body (C o : ℕ) (bs : List ℕ) (old : ℕ → ℕ) (A : List ℕ) : Type 0 where
  pub len : length A ≡ C
  pub small : Small A
  pub inside : (y : ℕ) → y < length bs → get_or A (o + y) 0 ≡ get_or bs y 0
  pub outside : (x : ℕ) → x < C → (x < o) ⊎ (o + length bs ≤ x) → get_or A x 0 ≡ old x

-- where the guest saw zeros
pub body-zeros : (C o : ℕ) (bs : List ℕ) (old : ℕ → ℕ) → o + length bs ≤ C → Small bs → ((x : ℕ) → x < C → old x ≡ 0) → Body C o bs old (around C o bs)
body-zeros C o bs old h p z =
    record {
      len = length_around C o bs h;
      small = small_around C o bs p;
      inside = around_in C o bs;
      outside = λ x l d. around_out C o bs x d ∙ sym (z x l);
    }

pub num_zeros : (k : ℕ) (f : ℕ → ℕ) (o : ℕ) → ((x : ℕ) → o ≤ x → x < o + k → f x ≡ 0) → num k f o ≡ 0
unfolding num
num_zeros zero f o h = refl
num_zeros (suc k) f o h = omega (arith, num_zeros k f o (λ x a b. h x a (omega arith)), h (o + k) (omega arith) (omega arith))

pub small_one : {v : ℕ} → v < 256 → Small (v ∷ [])
small_one p zero = p
small_one p (suc x) = zero-lt-suc 255

from_start : (f : ℕ → ℕ) (A : List ℕ) (x : ℕ) → f (0 + x) ≡ get_or A x 0 → f x ≡ get_or A x 0
from_start f A x e = ap f (sym (zero-add x)) ∙ e

pub shown-some : (p b u : ℕ) → p ≢ 0 → shown p 0 b u ≡ b
unfolding shown
shown-some zero b u n = absurd (n refl)
shown-some (suc p) b u n = refl

pub gread_shown : (g : Geo) (K : Codec) (m : ℕ → ℕ → ℕ) (i j x u : ℕ) → dat g K m i j ≢ 0 → mark g K m i j ≡ 0 → gread g K m i j x u ≡ m (dat g K m i j) x
unfolding gread
gread_shown g K m i j x u d f = rw f (shown-some (dat g K m i j) (m (dat g K m i j) x) u d)

pub gread_marked : (g : Geo) (K : Codec) (m : ℕ → ℕ → ℕ) (i j x : ℕ) → mark g K m i j ≢ 0 → gread g K m i j x ≡ (λ u. 0)
unfolding gread shown
gread_marked g K m i j x d = go (dat g K m i j) (mark g K m i j) (m (dat g K m i j) x) d
  where
    go : (p f b : ℕ) → f ≢ 0 → shown p f b ≡ (λ u. 0)
    go p zero b n = absurd (n refl)
    go p (suc f) b n = refl

module _ (g : Geo) (K : Codec) where
  -- the data are written to the guest cluster of i and j, under which the bytes u lie
  pub record Wrote (u : ℕ → ℕ) (i j o : ℕ) (bs : List ℕ) (img img' : List ℕ) : Type 0 where
    pub other : (a b x : ℕ) → a < g.L → b < g.E → x < g.C → (a ≢ i) ⊎ (b ≢ j) → gread g K (mem g.C img') a b x ≡ gread g K (mem g.C img) a b x
    pub inside : (y : ℕ) → y < length bs → gread g K (mem g.C img') i j (o + y) (u (o + y)) ≡ get_or bs y 0
    pub outside : (x : ℕ) → x < g.C → (x < o) ⊎ (o + length bs ≤ x) → gread g K (mem g.C img') i j x (u x) ≡ gread g K (mem g.C img) i j x (u x)

  -- bytes are written, each of them the old or the one of bs
  pub record Partly (u : ℕ → ℕ) (i j o : ℕ) (bs : List ℕ) (img img' : List ℕ) : Type 0 where
    pub bytes : List ℕ
    pub len : length bytes ≡ length bs
    pub each : (y : ℕ) → y < length bs → (get_or bytes y 0 ≡ gread g K (mem g.C img) i j (o + y) (u (o + y))) ⊎ (get_or bytes y 0 ≡ get_or bs y 0)
    pub wrote : Wrote u i j o bytes img img'

module _ (g : Geo) (K : Codec) (ok : GeoOk g K) (m0 : ℕ → ℕ → ℕ) where
  -- nothing but counts and unreferenced clusters has changed since img
  pub record Still (img s : List ℕ) : Type 0 where
    pub fine : Ok g K m0 s
    pub keep : Keep g K (mem g.C img) (mem g.C s)
    pub reads : SameGuest g K img s

  abbrev pub MidW : (ℕ → ℕ) → ℕ → ℕ → ℕ → List ℕ → List ℕ → List ℕ → Type 0
  MidW u i j o bs img s = Ok g K m0 s × (SameGuest g K img s ⊎ Wrote g K u i j o bs img s)

  abbrev pub EndW : (ℕ → ℕ) → ℕ → ℕ → ℕ → List ℕ → List ℕ → List ℕ → Type 0
  EndW u i j o bs img s = Ok g K m0 s × Wrote g K u i j o bs img s

  -- in place: each cut has stored some bytes of the data
  abbrev pub MidP : (ℕ → ℕ) → ℕ → ℕ → ℕ → List ℕ → List ℕ → List ℕ → Type 0
  MidP u i j o bs img s = Ok g K m0 s × Partly g K u i j o bs img s

  module _ (img : List ℕ) (k : Ok g K m0 img) (u : ℕ → ℕ) (i j o : ℕ) (bs : List ℕ) (l : i < g.L) (n : j < g.E) (in_c : o + length bs ≤ g.C) (sm : Small bs) where
    place_end : dat g K (mem g.C img) i j ≢ 0 → refs_of g K (mem g.C img) (dat g K (mem g.C img) i j) ≤ 1 → mark g K (mem g.C img) i j ≡ 0 → (vs : List ℕ) → o + length vs ≤ g.C → Small vs
        → EndW u i j o vs img (sets img (dat g K (mem g.C img) i j * g.C + o) vs)
    place_end d one f vs h p = (
      ok_next g K ok m0 img w o vs k d (away g K ok m0 m w (dat_fix g.L g.E (fix g m) (tab g K m) (dat g K m) i j l n d one)) p st r.0.rts (keep_sound g K ok m m' s r.0 (λ c q. omega (arith, s.inv.covered c q, r.1 c q))),
      record {
        other = r.2;
        inside = λ y q. gread_shown g K m' i j (o + y) (u (o + y)) (λ z. d (sym dd ∙ z)) ff ∙ ap (λ (c : ℕ). m' c (o + y)) dd ∙ st.inside y q;
        outside = λ x q e. ap (λ (f : ℕ → ℕ). f (u x)) (gread_keep g K ok m m' r.0 i j x l n (λ z. out x q e));
      },
    )
      where
        m : ℕ → ℕ → ℕ
        m = mem g.C img

        s : Sound g K m
        s = k.sound

        w : ℕ
        w = dat g K m i j

        m' : ℕ → ℕ → ℕ
        m' = mem g.C (sets img (w * g.C + o) vs)

        w_n : w < g.N
        w_n = dat_in g K ok m s i j l n

        st : Stored g.C m m' w o vs
        st = next-stored g K ok m0 img k w o vs w_n h p

        r : Keep g K m m' × ((c : ℕ) → c < g.N → cnt g m' c ≡ cnt g m c)
            × ((a b x : ℕ) → a < g.L → b < g.E → x < g.C → (a ≢ i) ⊎ (b ≢ j) → gread g K m' a b x ≡ gread g K m a b x)
        r = data_step g K ok m s m' (next_small g K ok m0 img k w o vs w_n h p) i j l n d one st.cluster

        dd : dat g K m' i j ≡ dat g K m i j
        dd = keep_dat g K ok m m' r.0 i j l n

        ff : mark g K m' i j ≡ 0
        ff = keep_mark g K ok m m' r.0 i j l n ∙ f

        out : (x : ℕ) → x < g.C → (x < o) ⊎ (o + length vs ≤ x) → m' w x ≡ m w x
        out x q (inl e) = st.before w x q e
        out x q (inr e) = st.after w x q e

    pub place-run : dat g K (mem g.C img) i j ≢ 0 → refs_of g K (mem g.C img) (dat g K (mem g.C img) i j) ≤ 1 → mark g K (mem g.C img) i j ≡ 0
        → Epoch g.C (MidP u i j o bs img) (fill (dat g K (mem g.C img) i j) o bs) img (EndW u i j o bs img)
    place-run d one f =
        epoch_fill g.C (MidP u i j o bs img) (dat g K (mem g.C img) i j) o bs img (EndW u i j o bs img)
        (λ vs x. let r : EndW u i j o vs img (sets img (dat g K (mem g.C img) i j * g.C + o) vs) = place_end d one f vs (omega (arith, x.len)) (small_mix _ img bs vs k.small sm x) in
        (r.0, record { bytes = vs; len = x.len; each = λ y q. seen vs y (x.each y q); wrote = r.1 }))
        (place_end d one f bs in_c sm)
      where
        seen : (vs : List ℕ) (y : ℕ) → (get_or vs y 0 ≡ get_or img (dat g K (mem g.C img) i j * g.C + o + y) 0) ⊎ (get_or vs y 0 ≡ get_or bs y 0)
            → (get_or vs y 0 ≡ gread g K (mem g.C img) i j (o + y) (u (o + y))) ⊎ (get_or vs y 0 ≡ get_or bs y 0)
        seen vs y (inl e) = inl (e ∙ ap (λ (z : ℕ). get_or img z 0) (add_assoc (dat g K (mem g.C img) i j * g.C) o y) ∙ sym (gread_shown g K (mem g.C img) i j (o + y) (u (o + y)) d f))
        seen vs y (inr e) = inr e

  pub keep_trans : (m m' m'' : ℕ → ℕ → ℕ) → Keep g K m m' → Keep g K m' m'' → Keep g K m m''
  keep_trans m m' m'' a b =
      record {
        small = b.small;
        rts = λ x l. b.rts x l ∙ a.rts x l;
        l1s = λ x l. b.l1s x l ∙ a.l1s x l;
        l2s = λ i j l n d. (rw (keep_tab g K ok m m' a i l) at (b.l2s i j l n (λ z. d (sym (keep_tab g K ok m m' a i l) ∙ z)))) ∙ a.l2s i j l n d;
      }

  pub still_start : (img : List ℕ) → Ok g K m0 img → Still img img
  unfolding SameGuest
  still_start img k =
      record { fine = k; keep = record { small = k.sound.bytes; rts = λ x l. refl; l1s = λ x l. refl; l2s = λ i j l n d. refl }; reads = λ a b x p q h. refl }

  pub still_refs : (img s : List ℕ) → Still img s → (c : ℕ) → refs_of g K (mem g.C s) c ≡ refs_of g K (mem g.C img) c
  still_refs img s t = keep_refs g K ok (mem g.C img) (mem g.C s) t.keep

  pub still_count : (img s : List ℕ) → Still img s → (c v : ℕ) → c < g.N → v < 2 ^ g.W → refs_of g K (mem g.C img) c ≤ v
      → Still img (apply g.C (count_store g (mem g.C img) c v) s)
      × (cnt g (mem g.C (apply g.C (count_store g (mem g.C img) c v) s)) c ≡ v)
      × ((x : ℕ) → x < g.N → x ≢ c → cnt g (mem g.C (apply g.C (count_store g (mem g.C img) c v) s)) x ≡ cnt g (mem g.C s) x)
      × ((a x : ℕ) → x < g.C → refs_of g K (mem g.C img) a ≡ 0 → mem g.C (apply g.C (count_store g (mem g.C img) c v) s) a x ≡ mem g.C s a x)
  unfolding SameGuest
  still_count img s t c v l lv h = (record { fine = r.fine; keep = keep_trans (mem g.C img) (mem g.C s) _ t.keep r.keep; reads = λ a b x p q w. r.reads a b x p q w ∙ t.reads a b x p q w }, r.new, r.rest, λ a x q f. r.free a x q (still_refs img s t a ∙ f))
    where
      r : CountSet g K ok m0 s (apply g.C (count_store g (mem g.C img) c v) s) c v
      r = then_count g K ok m0 img s t.fine c v l lv (rw (still_refs img s t c) h) (keep_blk g K ok (mem g.C img) (mem g.C s) t.keep)

  pub still_fill : (img s : List ℕ) → Still img s → (w o : ℕ) (vs : List ℕ) → w < g.N → o + length vs ≤ g.C → Small vs → refs_of g K (mem g.C img) w ≡ 0
      → Still img (sets s (w * g.C + o) vs)
      × ((x : ℕ) → x < g.N → cnt g (mem g.C (sets s (w * g.C + o) vs)) x ≡ cnt g (mem g.C s) x)
      × Stored g.C (mem g.C s) (mem g.C (sets s (w * g.C + o) vs)) w o vs
  unfolding SameGuest
  still_fill img s t w o vs l h p f = (
    record { fine = r.0; keep = keep_trans (mem g.C img) (mem g.C s) _ t.keep r.1.keep; reads = λ a b x p q w. r.1.reads a b x p q w ∙ t.reads a b x p q w },
    r.1.cnts,
    next-stored g K ok m0 s t.fine w o vs l h p,
  )
    where
      r : Ok g K m0 (sets s (w * g.C + o) vs) × Quiet g K (mem g.C s) (mem g.C (sets s (w * g.C + o) vs))
      r = next-free g K ok m0 s t.fine w o vs l h p (still_refs img s t w ∙ f)

  -- a unit that leaves still what is so: a count that is no less than the references, and bytes of a cluster that nothing refers to
  abbrev pub Silent : List ℕ → Store → Type 0
  Silent img u = (s : List ℕ) → Still img s → Still img (apply g.C u s)

  pub silent_count : (img : List ℕ) (c v : ℕ) → c < g.N → v < 2 ^ g.W → refs_of g K (mem g.C img) c ≤ v → Silent img (count_store g (mem g.C img) c v)
  silent_count img c v l lv h s t = (still_count img s t c v l lv h).0

  silent_fill : (img : List ℕ) (w o : ℕ) (vs : List ℕ) → w < g.N → o + length vs ≤ g.C → Small vs → refs_of g K (mem g.C img) w ≡ 0 → Each (Silent img) (fill w o vs)
  unfolding fill apply
  silent_fill img w o [] l h p f = none
  silent_fill img w o (v ∷ vs) l h p f =
      also (λ s t. (still_fill img s t w o (v ∷ []) l (omega arith) (small_one (p zero)) f).0) (silent_fill img w (suc o) vs l (omega arith) (λ x. p (suc x)) f)

  module _ (img : List ℕ) (k : Ok g K m0 img) (u : ℕ → ℕ) (i j o : ℕ) (bs : List ℕ) (l : i < g.L) (n : j < g.E) (in_c : o + length bs ≤ g.C)
      (A : List ℕ) (whole : Body g.C o bs (λ x. gread g K (mem g.C img) i j x (u x)) A) where
    l_a : length A ≡ g.C
    l_a = whole.len

    sm_a : Small A
    sm_a = whole.small

    -- what a new entry for cluster c, which holds A, brings to light
    commit : (s : List ℕ) → Still img s → (c : ℕ) → c < g.N → c ≢ 0 → tab g K (mem g.C img) i ≢ 0
        → refs_of g K (mem g.C img) (tab g K (mem g.C img) i) ≤ 1 → (dat g K (mem g.C img) i j ≢ 0 → refs_of g K (mem g.C img) (dat g K (mem g.C img) i j) ≤ 1)
        → ((refs_of g K (mem g.C s) c ≡ 0) × (1 ≤ cnt g (mem g.C s) c)) ⊎ (c ≡ dat g K (mem g.C s) i j)
        → ((x : ℕ) → x < g.C → mem g.C s c x ≡ get_or A x 0)
        → EndW u i j o bs img (apply g.C (entry_store g (tab g K (mem g.C img) i) j (K.mk c)) s)
    unfolding SameGuest
    commit s t c c_n c0 tb one alone new body = (
      e.fine,
      record {
        other = λ a b x p q h d. e.reads a b x p q h d ∙ t.reads a b x p q h;
        inside = λ y q. lit (o + y) (omega arith) ∙ whole.inside y q;
        outside = λ x q d. lit x q ∙ whole.outside x q d;
      },
    )
      where
        m : ℕ → ℕ → ℕ
        m = mem g.C img

        ms : ℕ → ℕ → ℕ
        ms = mem g.C s

        tb' : tab g K ms i ≡ tab g K m i
        tb' = keep_tab g K ok m ms t.keep i l

        db' : dat g K ms i j ≡ dat g K m i j
        db' = keep_dat g K ok m ms t.keep i j l n

        alone' : dat g K ms i j ≢ 0 → refs_of g K ms (dat g K ms i j) ≤ 1
        alone' z = rw (db', still_refs img s t (dat g K m i j)) (alone (λ y. z (db' ∙ y)))

        mc : K.clus (K.mk c) ≡ c
        mc = ok.laws.mk_clus c c_n

        new' : ((refs_of g K ms c ≡ 0) × (1 ≤ cnt g ms c)) ⊎ (c ≡ dat g K ms i j)
            → (K.clus (K.mk c) ≢ 0 → (refs_of g K ms (K.clus (K.mk c)) ≡ 0) × (1 ≤ cnt g ms (K.clus (K.mk c)))) ⊎ (K.clus (K.mk c) ≡ dat g K ms i j)
        new' (inl f) = inl (λ d. rw mc f)
        new' (inr f) = inr (mc ∙ f)

        e : Entered g K ok m0 s (apply g.C (entry_store g (tab g K m i) j (K.mk c)) s) i j (K.mk c)
        e = rw tb' at (next-entry g K ok m0 s t.fine i j (K.mk c) l n (λ z. tb (sym tb' ∙ z)) (rw (tb', still_refs img s t (tab g K m i)) one) alone' (ok.laws.mk_good2 c c_n c0) (ok.laws.mk_lt c c_n) (λ z. ok.laws.mk_own c c_n) (new' new))

        lit : (x : ℕ) → x < g.C → gread g K (mem g.C (apply g.C (entry_store g (tab g K m i) j (K.mk c)) s)) i j x (u x) ≡ get_or A x 0
        lit x q = ap (λ (f : ℕ → ℕ). f (u x)) (e.read x q) ∙ rw (mc, ok.laws.mk_flag c c_n) (shown-some c (ms c x) (u x) c0) ∙ body x q

    -- the data cluster under a zero mark may hold anything
    marked-fill : dat g K (mem g.C img) i j ≢ 0 → refs_of g K (mem g.C img) (dat g K (mem g.C img) i j) ≤ 1 → mark g K (mem g.C img) i j ≢ 0 → (vs : List ℕ) → 0 + length vs ≤ g.C → Small vs
        → Still img (sets img (dat g K (mem g.C img) i j * g.C + 0) vs)
        × Stored g.C (mem g.C img) (mem g.C (sets img (dat g K (mem g.C img) i j * g.C + 0) vs)) (dat g K (mem g.C img) i j) 0 vs
    unfolding SameGuest
    marked-fill d one f vs h p = (
      record {
        fine = ok_next g K ok m0 img c 0 vs k d (away g K ok m0 m c (dat_fix g.L g.E (fix g m) (tab g K m) (dat g K m) i j l n d one)) p st r.0.rts (keep_sound g K ok m m' s r.0 (λ x q. omega (arith, s.inv.covered x q, r.1 x q)));
        keep = r.0;
        reads = λ a b x e q w. see a b x e q w (pair_or a b i j);
      },
      st,
    )
      where
        m : ℕ → ℕ → ℕ
        m = mem g.C img

        s : Sound g K m
        s = k.sound

        c : ℕ
        c = dat g K m i j

        m' : ℕ → ℕ → ℕ
        m' = mem g.C (sets img (c * g.C + 0) vs)

        c_n : c < g.N
        c_n = dat_in g K ok m s i j l n

        st : Stored g.C m m' c 0 vs
        st = next-stored g K ok m0 img k c 0 vs c_n h p

        r : Keep g K m m' × ((x : ℕ) → x < g.N → cnt g m' x ≡ cnt g m x)
            × ((a b x : ℕ) → a < g.L → b < g.E → x < g.C → (a ≢ i) ⊎ (b ≢ j) → gread g K m' a b x ≡ gread g K m a b x)
        r = data_step g K ok m s m' (next_small g K ok m0 img k c 0 vs c_n h p) i j l n d one st.cluster

        ff : mark g K m' i j ≢ 0
        ff z = f (sym (keep_mark g K ok m m' r.0 i j l n) ∙ z)

        see : (a b x : ℕ) → a < g.L → b < g.E → x < g.C → ((a ≡ i) × (b ≡ j)) ⊎ ((a ≢ i) ⊎ (b ≢ j)) → gread g K m' a b x ≡ gread g K m a b x
        see a b x e q w (inr u) = r.2 a b x e q w u
        see a b x e q w (inl u) = rw (u.0, u.1) (gread_marked g K m' i j x ff ∙ sym (gread_marked g K m i j x f))

    -- the unit that brings the data to light, after a flush: what went before it shows nothing
    light : (s : List ℕ) → Still img s → (v : Store) → EndW u i j o bs img (apply g.C v s) → Epoch g.C (MidW u i j o bs img) (v ∷ []) s (EndW u i j o bs img)
    light s t v r = epoch_one g.C (MidW u i j o bs img) v s (EndW u i j o bs img) (t.fine, inl t.reads) (r.0, inr r.1) r

    -- a place under a zero mark: the whole cluster; after a flush the entry
    pub marked-run : dat g K (mem g.C img) i j ≢ 0
        → refs_of g K (mem g.C img) (tab g K (mem g.C img) i) ≤ 1 → refs_of g K (mem g.C img) (dat g K (mem g.C img) i j) ≤ 1
        → mark g K (mem g.C img) i j ≢ 0
        → Epoch g.C (MidW u i j o bs img) (fill (dat g K (mem g.C img) i j) 0 A) img
        (λ s. Epoch g.C (MidW u i j o bs img) (entry_store g (tab g K (mem g.C img) i) j (K.mk (dat g K (mem g.C img) i j)) ∷ []) s (EndW u i j o bs img))
    marked-run d one alone f =
        epoch_fill g.C (MidW u i j o bs img) c 0 A img (λ s. Epoch g.C (MidW u i j o bs img) (entry_store g (tab g K m i) j (K.mk c) ∷ []) s (EndW u i j o bs img))
        (λ vs x. let r = filled vs (omega (arith, x.len, l_a)) (small_mix _ img A vs k.small sm_a x) in (r.0.fine, inl r.0.reads))
        (let r = filled A (omega (arith, l_a)) sm_a in
        light _ r.0 _
        (commit _ r.0 c c_n d tb one (λ z. alone) (inr (sym (keep_dat g K ok m _ r.0.keep i j l n)))
        (λ x q. from_start (mem g.C (sets img (c * g.C + 0) A) c) A x (r.1.inside x (omega (arith, l_a))))))
      where
        m : ℕ → ℕ → ℕ
        m = mem g.C img

        c : ℕ
        c = dat g K m i j

        tb : tab g K m i ≢ 0
        tb z = d (dat_none g K m i j z)

        c_n : c < g.N
        c_n = dat_in g K ok m k.sound i j l n

        filled : (vs : List ℕ) → 0 + length vs ≤ g.C → Small vs
            → Still img (sets img (c * g.C + 0) vs) × Stored g.C m (mem g.C (sets img (c * g.C + 0) vs)) c 0 vs
        filled vs h p = marked-fill d alone f vs h p

    -- no place: the count and the whole cluster; after a flush the entry
    pub alloc_run : (c : ℕ) → c < g.N → cnt g (mem g.C img) c ≡ 0 → tab g K (mem g.C img) i ≢ 0 → dat g K (mem g.C img) i j ≡ 0
        → refs_of g K (mem g.C img) (tab g K (mem g.C img) i) ≤ 1
        → Epoch g.C (MidW u i j o bs img) (count_store g (mem g.C img) c 1 ∷ fill c 0 A) img
        (λ s. Epoch g.C (MidW u i j o bs img) (entry_store g (tab g K (mem g.C img) i) j (K.mk c) ∷ []) s (EndW u i j o bs img))
    unfolding apply_all
    alloc_run c c_n z tb d one = (
      (λ cs. let t = kept g.C (Still img) silent cs img st₀ in (t.fine, inl t.reads)),
      rw (apply-fill g.C c 0 A s₁)
          (light _ st₂.0 _
          (commit _ st₂.0 c c_n c0 tb one (λ y. absurd (y d)) (inl (still_refs img _ st₂.0 c ∙ free, omega (arith, st₂.1 c c_n, st₁.1)))
          (λ x q. from_start (mem g.C (sets s₁ (c * g.C + 0) A) c) A x (st₂.2.inside x (omega (arith, l_a)))))),
    )
      where
        m : ℕ → ℕ → ℕ
        m = mem g.C img

        free : refs_of g K m c ≡ 0
        free = omega (arith, k.sound.inv.covered c c_n)

        c0 : c ≢ 0
        c0 = free-not-0 g K ok m k.sound c free

        st₀ : Still img img
        st₀ = still_start img k

        s₁ : List ℕ
        s₁ = apply g.C (count_store g m c 1) img

        st₁ : Still img s₁ × (cnt g (mem g.C s₁) c ≡ 1) × ((x : ℕ) → x < g.N → x ≢ c → cnt g (mem g.C s₁) x ≡ cnt g m x)
            × ((a x : ℕ) → x < g.C → refs_of g K m a ≡ 0 → mem g.C s₁ a x ≡ m a x)
        st₁ = still_count img img st₀ c 1 c_n (one-fits g K ok m0) (omega (arith, free))

        silent : Each (Silent img) (count_store g m c 1 ∷ fill c 0 A)
        silent = also (silent_count img c 1 c_n (one-fits g K ok m0) (omega (arith, free))) (silent_fill img c 0 A c_n (omega (arith, l_a)) sm_a free)

        st₂ : Still img (sets s₁ (c * g.C + 0) A) × ((x : ℕ) → x < g.N → cnt g (mem g.C (sets s₁ (c * g.C + 0) A)) x ≡ cnt g (mem g.C s₁) x)
            × Stored g.C (mem g.C s₁) (mem g.C (sets s₁ (c * g.C + 0) A)) c 0 A
        st₂ = still_fill img s₁ st₁.0 c 0 A c_n (omega (arith, l_a)) sm_a free

    -- the L1 entry for a table t that is ready
    pub record Ready (t c : ℕ) (s : List ℕ) : Type 0 where
      pub still : Still img s
      pub count_t : cnt g (mem g.C s) t ≡ 1
      pub count_c : cnt g (mem g.C s) c ≡ 1
      pub entry : l2 g (mem g.C s) t j ≡ K.mk c
      pub none : (b : ℕ) → b < g.E → b ≢ j → l2 g (mem g.C s) t b ≡ 0
      pub body : (x : ℕ) → x < g.C → mem g.C s c x ≡ get_or A x 0

    link_commit : Has g i → (t c : ℕ) → t < g.N → c < g.N → t ≢ c → cnt g (mem g.C img) t ≡ 0 → cnt g (mem g.C img) c ≡ 0 → tab g K (mem g.C img) i ≡ 0
        → (s : List ℕ) → Ready t c s → EndW u i j o bs img (apply g.C (link_store g i (K.mk t)) s)
    unfolding SameGuest apply link_store
    link_commit hi t c t_n c_n tc zt zc z s r = (
      ok_next g K ok m0 s w p (enc 8 (K.mk t)) r.still.fine w0
          (λ q b. link_away g K ok ms ss m' sm' i t l hi t_n st g.T q (omega arith) b (λ e. omega (arith, tree_in g K ok i l, e))) (small-enc 8 (K.mk t)) st (link_rt g K ok ms ss m' sm' i t l hi t_n st)
          (link_sound g K ok ms ss m' sm' i t l hi t_n st j n z' ft c (ap K.clus r.entry ∙ mc) (ap K.own r.entry ∙ ok.laws.mk_own c c_n) tc fc (omega (arith, r.count_t)) (omega (arith, r.count_c))
          (λ b q. goods b q (ℕ_discrete b j)) (λ b q d. ap K.clus (r.none b q d) ∙ ok.laws.zero_clus)),
      record {
        other = λ a b x e q h d. see a b x e q h d (ℕ_discrete a i);
        inside = λ y q. lit (o + y) (omega arith) ∙ whole.inside y q;
        outside = λ x q d. lit x q ∙ whole.outside x q d;
      },
    )
      where
        m : ℕ → ℕ → ℕ
        m = mem g.C img

        ms : ℕ → ℕ → ℕ
        ms = mem g.C s

        ss : Sound g K ms
        ss = r.still.fine.sound

        w : ℕ
        w = row g i

        p : ℕ
        p = 8 * col g i

        i_e : i % g.M / g.E < g.span (i / g.M)
        i_e = row_in g K ok i l hi

        w_n : w < g.N
        w_n = row-N g K ok i l hi

        t_i : i / g.M < suc g.T
        t_i = omega (arith, tree_in g K ok i l)

        w0 : w ≢ 0
        w0 = l1_0 g ms w (i / g.M) (i % g.M / g.E) t_i i_e (fix_one g K ok ms ss w w_n) refl

        fits : p + length (enc 8 (K.mk t)) ≤ g.C
        fits = omega (arith, ok.c8, length-enc 8 (K.mk t), mod-lt (i % g.M) ok.epos)

        m' : ℕ → ℕ → ℕ
        m' = mem g.C (sets s (w * g.C + p) (enc 8 (K.mk t)))

        sm' : (a x : ℕ) → m' a x < 256
        sm' = next_small g K ok m0 s r.still.fine w p (enc 8 (K.mk t)) w_n fits (small-enc 8 (K.mk t))

        st : Stored g.C ms m' w p (enc 8 (K.mk t))
        st = next-stored g K ok m0 s r.still.fine w p (enc 8 (K.mk t)) w_n fits (small-enc 8 (K.mk t))

        z' : tab g K ms i ≡ 0
        z' = keep_tab g K ok m ms r.still.keep i l ∙ z

        ft : refs_of g K ms t ≡ 0
        ft = omega (arith, still_refs img s r.still t, k.sound.inv.covered t t_n)

        fc : refs_of g K ms c ≡ 0
        fc = omega (arith, still_refs img s r.still c, k.sound.inv.covered c c_n)

        c0 : c ≢ 0
        c0 = free-not-0 g K ok ms ss c fc

        mc : K.clus (K.mk c) ≡ c
        mc = ok.laws.mk_clus c c_n

        goods : (b : ℕ) → b < g.E → Dec (b ≡ j) → K.good2 (l2 g ms t b)
        goods b q (yes e) = rw (e, r.entry) (ok.laws.mk_good2 c c_n c0)
        goods b q (no d) = rw (r.none b q d) ok.laws.zero-good2

        see : (a b x : ℕ) → a < g.L → b < g.E → x < g.C → (a ≢ i) ⊎ (b ≢ j) → Dec (a ≡ i) → gread g K m' a b x ≡ gread g K m a b x
        see a b x e q h d (no u) = link_reads g K ok ms ss m' sm' i t l hi t_n st j n z' ft a b x e q h u ∙ r.still.reads a b x e q h
        see a b x e q h (inl d) (yes u) = absurd (d u)
        see a b x e q h (inr d) (yes u) =
            rw u (link_zeros g K ok ms ss m' sm' i t l hi t_n st j n z' ft b x q (r.none b q d) ∙ sym (gread_absent g K m i b x z))

        cw : K.clus (l2 g ms t j) ≢ w
        cw e = omega (arith, fix_l1 g ms w (i / g.M) (i % g.M / g.E) t_i i_e refl, refs_fix g.L g.E (fix g ms) (tab g K ms) (dat g K ms) c, fc, ap (fix g ms) (sym mc ∙ ap K.clus (sym r.entry) ∙ e))

        lit : (x : ℕ) → x < g.C → gread g K m' i j x (u x) ≡ get_or A x 0
        lit x q = ap (λ (f : ℕ → ℕ). f (u x)) (link_read g K ok ms ss m' sm' i t l hi t_n st j n z' ft x q cw) ∙ rw (r.entry, mc, ok.laws.mk_flag c c_n) (shown-some c (ms c x) (u x) c0) ∙ r.body x q

    module _ (t c : ℕ) (t_n : t < g.N) (c_n : c < g.N) (tc : t ≢ c) (zt : cnt g (mem g.C img) t ≡ 0) (zc : cnt g (mem g.C img) c ≡ 0) where
      free_t : refs_of g K (mem g.C img) t ≡ 0
      free_t = omega (arith, k.sound.inv.covered t t_n)

      free_c : refs_of g K (mem g.C img) c ≡ 0
      free_c = omega (arith, k.sound.inv.covered c c_n)

      -- the table's cluster is zeros and counted
      record P₁ (s : List ℕ) : Type 0 where
        still : Still img s
        count_t : cnt g (mem g.C s) t ≡ 1
        zeros : (x : ℕ) → x < g.C → mem g.C s t x ≡ 0

      record P₂ (s : List ℕ) : Type 0 where
        still : Still img s
        count_t : cnt g (mem g.C s) t ≡ 1
        count_c : cnt g (mem g.C s) c ≡ 1
        zeros : (x : ℕ) → x < g.C → mem g.C s t x ≡ 0
        body : (x : ℕ) → x < g.C → mem g.C s c x ≡ get_or A x 0

      step-entry : (s : List ℕ) → P₂ s → Ready t c (apply g.C (entry_store g t j (K.mk c)) s)
      unfolding apply entry_store l2
      step-entry s p =
          record {
            still = r.0;
            count_t = r.1 t t_n ∙ p.count_t;
            count_c = r.1 c c_n ∙ p.count_c;
            entry = stored_num g.C ms m' t (8 * j) 8 (K.mk c) r.2 (ok.laws.mk_lt c c_n);
            none = λ b q d. stored-apart g.C ms m' t (8 * j) (enc 8 (K.mk c)) r.2 8 t (8 * b) (omega (arith, ok.c8))
                (steps_apart 8 b j (length (enc 8 (K.mk c))) (length-enc 8 (K.mk c)) d) ∙ num_zeros 8 (ms t) (8 * b) (λ x u v. p.zeros x (omega (arith, ok.c8)));
            body = λ x q. r.2.cluster c x q (λ e. tc (sym e)) ∙ p.body x q;
          }
        where
          ms : ℕ → ℕ → ℕ
          ms = mem g.C s

          m' : ℕ → ℕ → ℕ
          m' = mem g.C (sets s (t * g.C + 8 * j) (enc 8 (K.mk c)))

          r : Still img (sets s (t * g.C + 8 * j) (enc 8 (K.mk c))) × ((x : ℕ) → x < g.N → cnt g m' x ≡ cnt g ms x) × Stored g.C ms m' t (8 * j) (enc 8 (K.mk c))
          r = still_fill img s p.still t (8 * j) (enc 8 (K.mk c)) t_n (omega (arith, ok.c8, length-enc 8 (K.mk c))) (small-enc 8 (K.mk c)) free_t

      abbrev Z : List ℕ
      Z = replicate g.C 0

      l_z : length Z ≡ g.C
      l_z = length-replicate {A = ℕ} g.C 0

      -- the table's count and its zeros
      step-table : P₁ (apply_all g.C (count_store g (mem g.C img) t 1 ∷ fill t 0 Z) img)
      unfolding apply_all
      step-table =
          rw (apply-fill g.C t 0 Z s₁)
          (record {
            still = r.0;
            count_t = r.1 t t_n ∙ st₁.1;
            zeros = λ x q. from_start (mem g.C (sets s₁ (t * g.C + 0) Z) t) Z x (r.2.inside x (omega (arith, l_z))) ∙ zeros-at g.C x;
          })
        where
          m : ℕ → ℕ → ℕ
          m = mem g.C img

          s₁ : List ℕ
          s₁ = apply g.C (count_store g m t 1) img

          st₁ : Still img s₁ × (cnt g (mem g.C s₁) t ≡ 1) × ((x : ℕ) → x < g.N → x ≢ t → cnt g (mem g.C s₁) x ≡ cnt g m x)
              × ((a x : ℕ) → x < g.C → refs_of g K m a ≡ 0 → mem g.C s₁ a x ≡ m a x)
          st₁ = still_count img img (still_start img k) t 1 t_n (one-fits g K ok m0) (omega (arith, free_t))

          r : Still img (sets s₁ (t * g.C + 0) Z) × ((x : ℕ) → x < g.N → cnt g (mem g.C (sets s₁ (t * g.C + 0) Z)) x ≡ cnt g (mem g.C s₁) x)
              × Stored g.C (mem g.C s₁) (mem g.C (sets s₁ (t * g.C + 0) Z)) t 0 Z
          r = still_fill img s₁ st₁.0 t 0 Z t_n (omega (arith, l_z)) (small-replicate g.C) free_t

      -- the data's count and its cluster
      step_data : (s : List ℕ) → P₁ s → P₂ (apply_all g.C (count_store g (mem g.C img) c 1 ∷ fill c 0 A) s)
      unfolding apply_all
      step_data s p =
          rw (apply-fill g.C c 0 A s₁)
          (record {
            still = r.0;
            count_t = r.1 t t_n ∙ st₁.2 t t_n tc ∙ p.count_t;
            count_c = r.1 c c_n ∙ st₁.1;
            zeros = λ x q. r.2.cluster t x q tc ∙ st₁.3 t x q free_t ∙ p.zeros x q;
            body = λ x q. from_start (mem g.C (sets s₁ (c * g.C + 0) A) c) A x (r.2.inside x (omega (arith, l_a)));
          })
        where
          m : ℕ → ℕ → ℕ
          m = mem g.C img

          s₁ : List ℕ
          s₁ = apply g.C (count_store g m c 1) s

          st₁ : Still img s₁ × (cnt g (mem g.C s₁) c ≡ 1) × ((x : ℕ) → x < g.N → x ≢ c → cnt g (mem g.C s₁) x ≡ cnt g (mem g.C s) x)
              × ((a x : ℕ) → x < g.C → refs_of g K m a ≡ 0 → mem g.C s₁ a x ≡ mem g.C s a x)
          st₁ = still_count img s p.still c 1 c_n (one-fits g K ok m0) (omega (arith, free_c))

          r : Still img (sets s₁ (c * g.C + 0) A) × ((x : ℕ) → x < g.N → cnt g (mem g.C (sets s₁ (c * g.C + 0) A)) x ≡ cnt g (mem g.C s₁) x)
              × Stored g.C (mem g.C s₁) (mem g.C (sets s₁ (c * g.C + 0) A)) c 0 A
          r = still_fill img s₁ st₁.0 c 0 A c_n (omega (arith, l_a)) sm_a free_c

      -- the entry in the table that nothing refers to yet
      silent_entry : Silent img (entry_store g t j (K.mk c))
      unfolding apply entry_store
      silent_entry s p = (still_fill img s p t (8 * j) (enc 8 (K.mk c)) t_n (omega (arith, ok.c8, length-enc 8 (K.mk c))) (small-enc 8 (K.mk c)) free_t).0

      abbrev pub ahead : List Store
      ahead =
          (count_store g (mem g.C img) t 1 ∷ fill t 0 (replicate g.C 0))
          ++ ((count_store g (mem g.C img) c 1 ∷ fill c 0 A) ++ (entry_store g t j (K.mk c) ∷ []))

      silent : Each (Silent img) ahead
      silent =
          each_append
          (also (silent_count img t 1 t_n (one-fits g K ok m0) (omega (arith, free_t))) (silent_fill img t 0 Z t_n (omega (arith, l_z)) (small-replicate g.C) free_t))
          (each_append
          (also (silent_count img c 1 c_n (one-fits g K ok m0) (omega (arith, free_c))) (silent_fill img c 0 A c_n (omega (arith, l_a)) sm_a free_c))
          (also silent_entry none))

      -- no table: its count, its zeros, the data's count, the data's cluster, the L2 entry; after a flush the L1 entry
      pub table-run : Has g i → tab g K (mem g.C img) i ≡ 0
          → Epoch g.C (MidW u i j o bs img) ahead img (λ s. Epoch g.C (MidW u i j o bs img) (link_store g i (K.mk t) ∷ []) s (EndW u i j o bs img))
      unfolding apply_all
      table-run hi z = (
        (λ cs. let p = kept g.C (Still img) silent cs img (still_start img k) in (p.fine, inl p.reads)),
        rw (apply_append, apply_append) (link _ (step-entry _ (step_data _ step-table))),
      )
        where
          link : (s : List ℕ) → Ready t c s → Epoch g.C (MidW u i j o bs img) (link_store g i (K.mk t) ∷ []) s (EndW u i j o bs img)
          link s e = light s e.still (link_store g i (K.mk t)) (link_commit hi t c t_n c_n tc zt zc z s e)
