-- A block comes apart into room for its rows, and a row is made of room and gives it back. Assumes `Logic`.
use mathlib.Core.Path.{◌≡◌, refl, sym, ap, ◌∙◌}
use Prim.Native.Nat.{ℕ, ◌<◌, ◌≤◌, ◌^◌, ◌+◌, ◌-◌, ◌*◌}
use native.Mathlib.Omega.{arith}
use mathlib.Core.List.{List, [], ◌∷◌}
use lib.Dec.{lit<}
use seplogic.Ra.Ura.{Ura}
use base.Fraction.{full_share}
use base.Fml.{ftrue, froom, fwand}
use base.Logic.{SProp, ent, sep, wand, apply∗}
use mir.Syntax.{Ty, Tys, ty_int, ty_array, tcons, tnil, w8, w32}
use mir.Raw.{raw as bare}
use prog.Memory.{size, align, up, capped}
use prog.Capped.{capped_is}
use prog.Model.{rooms_at}
use types.Logic.{Logic, sem}
use types.Kit.{‵, raw, ◌⊛◌, ◌$◌, ◌∵◌, !, qed, by, move, keep, use0, use1, use2, drop, split, split3, rewrite, fsplit, fjoin, flt_i, frame, assume, group}
use types.Kit.{done}
use denote.Array.{Array}
use denote.Memory.{part_at}
use denote.Param.{layout}
use denote.Param.Laws.{Laws}
use denote.RattleType.{RattleType}
use denote.RawPtr.{block_ptr}
use denote.Steps.{nothing}
use Rattle.std_alloc.specs.Vec.Ownership.{lodged}
use Rattle.std_alloc.proofs.RawLayout.{as_raw, as_written}
use Rattle.std_alloc.proofs.VecSteps.El.{El, no_al, R, sz}
use Rattle.std_alloc.proofs.VecSteps.Rows.{all_room, empty}
use Rattle.std_alloc.proofs.VecSteps.Opens.{blk_out, blk_in}
use Rattle.raw_pages.specs.Block.{block_type, room_for_rows}

pub block_size : (pages : ℕ) → pages ≤ 4096 → capped (size (block_type pages)) ≡ 4160 * pages
block_size pages few =
    let bytes : up 4 (up 1 (up 4 0 + 16 * pages * 4) + 4096 * pages * 1) ≡ 4160 * pages = omega arith in
    ap capped bytes ∙ capped_is (4160 * pages) (omega arith)

pub block_align : (pages : ℕ) → capped (align (block_type pages)) ≡ 4
block_align pages = capped_is 4 (lit< tt)

module _ {M : Type 1} {𝓤 : Ura M} (𝓛 : Logic 𝓤) (pages b o : ℕ) where
  open 𝓛 use {H}

  abbrev words : Ty
  words = ty_array (ty_int w32) (16 * pages)

  abbrev bytes : Ty
  bytes = ty_array (ty_int w8) (4096 * pages)

  abbrev fields : Tys
  fields = tcons words (tcons bytes tnil)

  pub apart : ent 𝓤 (H.room (block_type pages) b o) (sep 𝓤 (sem 𝓛 (room_for_rows pages b o)) (sem 𝓛 (fwand (room_for_rows pages b o) (froom (block_type
      pages) b o))))
  apart =
      let Back : SProp 𝓤 = wand 𝓤 (rooms_at 𝓤 H fields 0 b o) (H.room (block_type pages) b o) in
      let first : o + up 4 0 ≡ o = omega arith in
      let second : o + up 1 (up 4 0 + 16 * pages * 4) ≡ o + 64 * pages = omega arith in
      qed 𝓛 (‵ (froom (block_type pages) b o) ∷ []) ∵
      use1 𝓛 ((‵ (froom words b (o + up 4 0)) ⊛ ‵ (froom bytes b (o + up 1 (up 4 0 + 16 * pages * 4))) ⊛ ‵ ftrue) ⊛ raw Back) (𝓛.laws.room_fields [] fields b
      o) $ split ! $ split3 ! $
      rewrite ! 0 (λ (k : ℕ). ‵ (froom words b k)) first refl $ rewrite ! 1 (λ (k : ℕ). ‵ (froom bytes b k)) second refl $ fjoin ! $ frame ! $
      assume ! (‵ (room_for_rows pages b o)) $ fsplit ! $
      rewrite ! 0 (λ (k : ℕ). ‵ (froom words b k)) (sym first) refl $ rewrite ! 1 (λ (k : ℕ). ‵ (froom bytes b k)) (sym second) refl $ group ! 3 $
      by ! (apply∗ 𝓤 (rooms_at 𝓤 H fields 0 b o) (H.room (block_type pages) b o))

module _ (Y : RattleType) (L : Laws Y) {M : Type 1} {𝓤 : Ura M} (𝓛 : Logic 𝓤) (b o c : ℕ) (pos : 0 < c) where
  open 𝓛 use {H}

  abbrev E : El
  E = record { row = Y; laws = L; al = no_al }

  pub row_of_room : c * sz E < 2 ^ 63 → ent 𝓤 (H.room (bare (ty_array (layout Y) c)) b o) (sem 𝓛 (lodged (R E) (block_ptr b o) 0 c []))
  row_of_room fit =
      let s : ℕ = sz E in
      let same : c ≡ c - 0 = omega arith in
      let start : o ≡ o + 0 * s = omega arith in
      qed 𝓛 (‵ (froom (bare (ty_array (layout Y) c)) b o) ∷ []) ∵ as_written ! (ty_array (layout Y) c) b o $
      rewrite ! 0 (λ (z : ℕ × ℕ). ‵ (froom (ty_array (layout Y) z.0) b z.1)) {x = (c - 0, o + 0 * s)} (λ i. (same i, start i)) refl $ nothing ! $
      move ! (1 ∷ 0 ∷ []) $
      use0 𝓛 (‵ (part_at (Array (R E) 0) full_share [] b o)) (empty E 𝓛 [] b o refl) $ blk_in E ! tt b o 0 c [] pos $ flt_i ! (c * s) (2 ^ 63) fit $
      fjoin ! $ done !

  pub room_of_row : (n : ℕ) (xs : List Y.Denot) → n ≤ c → ent 𝓤 (sem 𝓛 (lodged (R E) (block_ptr b o) n c xs)) (H.room (bare (ty_array (layout Y) c)) b o)
  room_of_row n xs le =
      qed 𝓛 (‵ (lodged (R E) (block_ptr b o) n c xs) ∷ []) ∵ fsplit ! $ drop ! $ blk_out E ! tt b o n c xs pos $ keep ! (0 ∷ 1 ∷ []) $
      use2 𝓛 (‵ (froom (ty_array (layout Y) c) b o)) (all_room E 𝓛 b o n c xs le) $ as_raw ! (ty_array (layout Y) c) b o $ done !
