-- What the guest reads once the entries of a batch are stored: what it reads in memory. Assumes nothing.
use mathlib.Core.Path.{◌≡◌, sym, ◌∙◌}
use mathlib.Core.Logic.{◌≢◌}
use mathlib.Core.Bool.{Bool}
use mathlib.Core.List.{List}
use Prim.Native.Nat.{ℕ, ◌<◌}
use native.Mathlib.Omega.{arith}
use Rattle.cuts.proofs.Cell.{mem}
use Rattle.cuts.proofs.Meta.{Geo, GeoOk, Codec, blk, dat, Keep}
use Rattle.cuts.proofs.Step.{gread, gread_keep}
use Rattle.cuts.proofs.Run.{Store, apply_all, picked}
use Rattle.cuts.proofs.Call.{Ok}
use Rattle.cuts.proofs.Write.{keep_trans}
use Rattle.batches.proofs.Mixture.{Use}
use Rattle.batches.proofs.Lists.{Agree, all_whole, all_apart, each_map, picked-each}
use Rattle.batches.proofs.Order.{data_aside}
use Rattle.batches.proofs.Planned.{Planned, Settled, late_image, late_keep, late_agree, lowers_fit, lowers_apart, cut_after, blk_eq}

module _ (g : Geo) (K : Codec) (ok : GeoOk g K) (m0 : ℕ → ℕ → ℕ) (img : List ℕ) (k0 : Ok g K m0 img) (role : ℕ → Use) (dead : ℕ → Type 0)
    (r l f : List Store) (s : List ℕ) (p : Planned g K ok m0 img k0 role dead r l f s) (settled : Settled g K ok m0 img k0 role s) (cs : List Bool) where
  abbrev x : ℕ → ℕ → ℕ
  x = mem g.C s

  abbrev late₀ : List ℕ
  late₀ = late_image g K ok m0 img k0 role dead r l f s p settled

  abbrev cut : List ℕ
  cut = apply_all g.C (picked cs f) late₀

  -- data lie in no block
  data_block : (i j : ℕ) → i < g.L → j < g.E → (b : ℕ) → b < g.B → dat g K x i j ≢ blk g (mem g.C img) b
  data_block i j i_l j_e b h e =
      let w : blk g x b ≡ blk g (mem g.C img) b = blk_eq g x (mem g.C img) b (p.mix.rts b (omega (arith, ok.rtfit))) in
      data_aside g K ok m0 s p.fine i j i_l j_e b h (w ∙ sym e)

  data_agree : (i j : ℕ) → i < g.L → j < g.E → Agree g.C g.N (dat g K x i j) cut s
  data_agree i j i_l j_e o h =
      all_apart g.C g.N (dat g K x i j) (picked-each cs (each_map (lowers_fit g K ok m0 img k0 role dead r l f s p settled) p.falling))
      (picked-each cs (each_map (lowers_apart g K ok m0 img k0 role dead r l f s p settled (dat g K x i j) (data_block i j i_l j_e)) p.falling))
      late₀ (all_whole g.C g.N l _ (all_whole g.C g.N r img k0.len)) o h
      ∙ late_agree g K ok m0 img k0 role dead r l f s p settled (dat g K x i j) (data_block i j i_l j_e) o h

  keeps : Keep g K x (mem g.C cut)
  keeps = keep_trans g K ok m0 x (mem g.C late₀) (mem g.C cut) (late_keep g K ok m0 img k0 role dead r l f s p settled) (cut_after g K ok m0 img k0 role dead r l f s p settled cs).keep

  pub reads-after : (i j o : ℕ) → i < g.L → j < g.E → o < g.C → gread g K (mem g.C cut) i j o ≡ gread g K x i j o
  reads-after i j o i_l j_e h = gread_keep g K ok x (mem g.C cut) keeps i j o i_l j_e (λ d. data_agree i j i_l j_e o h)
