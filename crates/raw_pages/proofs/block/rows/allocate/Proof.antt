-- `allocate` cuts the new block into its rows, and keeps the way back. Assumes `Logic`.
use mathlib.Core.Path.{◌≡◌, refl, sym, ap, subst}
use mathlib.Core.Bool.{true, false}
use Prim.Native.Nat.{ℕ, ◌+◌, ◌*◌, ◌<◌, ◌≤◌, ◌^◌}
use native.Mathlib.Omega.{arith}
use mathlib.Core.List.{List, [], ◌∷◌, ◌++◌}
use lib.Dec.{lit<}
use seplogic.Ra.Ura.{Ura}
use mir.Syntax.{Fn, Args, Body, named, w64, a_type, dcons, dnil}
use mir.MapTy.{inst_fn}
use mir.Val.{Val, vptr, vint, vstruct, vcons, vnil}
use base.Logic.{SProp, ent}
use base.Fml.{Lft, Share, ftrue, fwand, froom, flft, Incl-trans}
use prog.Memory.{Memory}
use prog.Routine.{Routine}
use prog.Wp.{Env, Calls, Loops, WpFn, Tables, Wp, after_seq, at_return}
use contract.BorrowLft.{◌⊑◌, ⊑_refl}
use contract.Monad.{Fun, fact}
use contract.Running.{tables, tables_of}
use sound.WpLaws.{WpFn-mono, FmC, fm_of}
use types.Logic.{Logic}
use types.Kit.{Item, Post as After, ⋆, ‵, raw, ◌⊛◌, some, given, later, await, at_ret, any_q, ◌$◌, ◌∵◌, !, qed, by, move, keep, use1, use2, use3, split}
use types.Kit.{join, pick, learn, fsplit, fsplit3, fjoin, feq_l, flt_l, suffices, frame, done}
use types.Match.{live, vrt, in_variant}
use types.Part.{whole, agg}
use types.Run.{stop, fld, lit, bin, of_opd, and_then, no_more, first, exec, returns, enter, switches_on}
use types.ByLocal.{alloc_all, pass_all, free_all, look_at, get, get_in, get_tag, sets, sets_last, is, lands_as, env}
use denote.Builtin.{usize, u8, u32, RefOf}
use denote.Exit.{yes}
use denote.Laws.{Is}
use denote.Memory.{hidden_shr}
use denote.Param.{layout, bounded}
use denote.RattleType.{RattleType, owns}
use denote.RawPtr.{Ptr, block_ptr}
use denote.Ref.{Bor, ShrRef}
use denote.Signature.{plain}
use denote.Steps.{nothing, owned, only}
use denote.Struct.Declared as Declared
use denote.Struct.Struct.{Struct, Struct-Makes, as_fields}
use denote.Struct.Tuple.{Tuple}
use denote.Triple.Call.{calls_at}
use denote.Triple.Clauses.{Clauses, Ended, closing}
use denote.Triple.Entry.{on_entry}
use denote.Triple.Spec.{Meets, triple_of}
use denote.Triple.Statement.{Triple}
use denote.Triple.Table.{entered}
use denote.Triple.Walked.{says, needs, Stays, stay_dropped, walk_of, ends_at, Goes-dropped, walk_Meets}
use Rattle.std.specs.Prelude.{IfOk, Ok, Err}
use Rattle.std.specs.contracts.result.Result as RS
use Rattle.std.specs.contracts.alloc.AllocError as AE
use Rattle.std.proofs.alloc.Calls.{Al, Answer-typed, takes_key, Takes, at_takes, Answered, Takes-goes, Takes-gives, answers}
use Rattle.std_alloc.proofs.ResultValues.{ok_of, err_of}
use Rattle.std_alloc.proofs.RcSteps.{first_Good}
use Rattle.std_alloc.proofs.VecSteps.Shapes.{after, head, arm_body}
use Rattle.std_alloc.proofs.vec.lodge.Met as lodge_met
use Rattle.std_alloc.specs.Vec.Ownership.{lodged}
use Rattle.std_alloc.specs.declared.vec.Vec.{Vec}
use Rattle.std_alloc.specs.declared.vec.lodged.Lodged.{Lodged}
use Rattle.raw_pages.specs.Block.{block_type, room_for_rows}
use Rattle.raw_pages.specs.Seated.{IsSeated}
use Rattle.raw_pages.proofs.Lodging.{Good, Row, row_laws, byte_laws, word_laws, tells, lodge_key, Lodges, at_lodge, IsLodged, lodge_goes, lodge_gives}
use Rattle.raw_pages.proofs.Owned.{P, Bk, big, lifetime, block_val, block_made, three_val, three_of}
use Rattle.raw_pages.proofs.Rooms.{block_size, block_align, apart, row_of_room}
use Rattle.raw_pages.specs.contracts.block.rows.allocate as F
use Rattle.raw_pages.specs.contracts.block.rows.allocate.Key.{name as #self}
use Rattle.raw_pages.proofs.block.rows.allocate.Statement as stated
use Rattle.raw_pages.proofs.block.rows.allocate.Code as code

module _ (Z : Al) where
  abbrev args : Args
  args = bounded (a_type ∷ []) (Z.row, tt) (dcons Z.d (dcons Z.drops dnil))

  abbrev function : Fn
  function = inst_fn args code.function

  abbrev ended : Ended
  ended = F.ended Z.row Z.g Z.d Z.drops

  abbrev clauses : {M : Type 1} {𝓤 : Ura M} (𝓛 : Logic 𝓤) → (Memory → SProp 𝓤) → (Routine → Fun 𝓤) → Clauses 𝓤 ended
  clauses 𝓛 = F.clauses Z.row Z.g Z.d Z.drops 𝓛

  abbrev stayed : Stays ended.signature.params ended.kept
  stayed = (stay_dropped (RefOf (0 ∷ []) tt (plain (λ _. P Z)) (λ _. tt)) yes, (stay_dropped (plain (λ _. usize)) yes, tt))

  abbrev Three : RattleType
  Three = Tuple (Row u32 ∷ Row u8 ∷ Bk Z ∷ [])

  abbrev Out : RattleType
  Out = RS.the_row Three AE.the_row

module _ (Z : Al) {M : Type 1} {𝓤 : Ura M} (𝓛 : Logic 𝓤) (at_mem : Memory → SProp 𝓤) (run : Routine → Fun 𝓤) (C : Calls 𝓤 𝓛.H) (Λ : Loops 𝓤 𝓛.H) (fm : FmC 𝓤
    𝓛.H 𝓛.laws C)
    (callee : Triple 𝓤 (C (takes_key Z)) (Takes Z 𝓛 at_mem run)) (lw : Triple 𝓤 (C (lodge_key u32)) (Lodges u32 (⊑_refl []) 𝓛 at_mem run)) (lb : Triple 𝓤 (C
    (lodge_key u8)) (Lodges u8 (⊑_refl []) 𝓛 at_mem run))
    (κ κ₁ : Lft) (q q₁ : Share) (short : κ ⊑ κ₁) (within : κ₁ ⊑ Z.row.lives) (rb ro : ℕ) (a : Z.row.Denot) (pages : ℕ) (us0 us1 : List Val) where
  open 𝓛 use {H, A}

  abbrev self : Bor Z.row.Denot
  self = record { ref_ptr = (rb, ro); now = a }

  abbrev others : Item 𝓤
  others = ‵ (flft κ₁ q₁) ⊛ ‵ ftrue

  abbrev bound : (walk_of 𝓛 (ended Z) (stayed Z) (clauses Z 𝓛 at_mem run)).Ghost
  bound = (((κ, (κ₁, tt)), (q, (q₁, tt)), (short, tt), (self, (pages, tt)), (us0, (us1, tt))), tt)

  abbrev Post : Val → SProp 𝓤
  Post = (walk_of 𝓛 (ended Z) (stayed Z) (clauses Z 𝓛 at_mem run)).post bound

  abbrev IsMade : (Out Z).Denot → Type 0
  IsMade r = IfOk r (λ t. (t.0.items ≡ []) × (t.1.items ≡ []) × IsSeated t.0 t.1 t.2 × (t.2.pages ≡ pages) × (t.2.alloc ≡ a))

  exits : (r : (Out Z).Denot) (v : Val) → IsMade r → ent 𝓤 (⋆ 𝓛 (‵ ((Out Z).own_val r (v ∷ [])) ∷ ‵ (flft κ q) ∷ others ∷ [])) (Post v)
  exits r v g =
      qed 𝓛 (‵ ((Out Z).own_val r (v ∷ [])) ∷ ‵ (flft κ q) ∷ others ∷ []) ∵
      suffices ! _ (ends_at 𝓛 (ended Z) (stayed Z) (clauses Z 𝓛 at_mem run) bound v r (tt, (tt, tt)) (tt, (tt, tt))) $ says ! g $
      move ! (1 ∷ 2 ∷ []) $ join ! $ frame ! $ nothing ! $ nothing ! $ fjoin ! $ nothing ! $ fjoin ! $ done !

  abbrev Had : List (Item 𝓤)
  Had = ‵ (hidden_shr (P Z) κ a rb ro) ∷ ‵ (flft κ q) ∷ others ∷ []

  walk : 0 < pages → pages ≤ 4096 → pages < 2 ^ 64 → ent 𝓤 (⋆ 𝓛 Had) (WpFn 𝓤 H C Λ (function Z) (vptr rb ro ∷ vint w64 pages ∷ []) Post)
  walk pos few fits =
      let total : 4160 * pages < 2 ^ 64 = omega arith in
      let sixteen : 16 * pages < 2 ^ 64 = omega arith in
      let front : 64 * pages < 2 ^ 64 = omega arith in
      let rest : 4096 * pages < 2 ^ 64 = omega arith in
      qed 𝓛 Had ∵ enter ! C Λ (function Z) (vptr rb ro ∷ vint w64 pages ∷ []) _ $
      alloc_all ! (λ l. pass_all ! refl ((tt, tt), ((tt, record { fits = fits }), tt)) $
      let En : Env 𝓤 H = env (function Z).locals l in
      let both : Body = head (after 2 (function Z).body) in
      let Then : After 𝓤 H = any_q (after_seq 𝓤 H (Wp 𝓤 H C Λ En (after 3 (function Z).body) (at_return 𝓤 H En Post)) (at_return 𝓤 H En Post)) in
      let y : (Takes Z 𝓛 at_mem run).Ghost = at_takes Z 𝓛 at_mem run κ q (rb, ro) a (4160 * pages) 4 (block_type pages) in
      sets ! (bin ! (big 4160 (lit< tt)) (get ! refl) (record { fits = total })) refl (tt, record { fits = total }) $
      use2 𝓛 (raw ((Takes Z 𝓛 at_mem run).pre y)) (Takes-goes Z 𝓛 at_mem run κ q (rb, ro) a (Incl-trans short within) (4160 * pages) 4 (block_type pages)
      (block_size pages few) (block_align pages) total (lit< tt)) $
      calls_at ! fm (Takes Z 𝓛 at_mem run) callee y (and_then ! (get ! refl) (and_then ! (get ! refl) (and_then ! (lit ! tt) (no_more !)))) (λ v.
      use1 𝓛 (later (raw (Answered Z 𝓛 at_mem run a (block_type pages) v) ⊛ ‵ (flft κ q))) (Takes-gives Z 𝓛 at_mem run κ q (rb, ro) a (4160 * pages) 4
      (block_type pages) v) $ await ! tt $ split ! $
      answers Z ! at_mem run a (block_type pages) v
      (λ b o e.
      let p : Ptr = block_ptr b o in
      let behind : 64 * pages + o ≡ o + 64 * pages = omega arith in
      let yw = at_lodge u32 (⊑_refl []) 𝓛 at_mem run b o 0 (16 * pages) [] in
      let yb = at_lodge u8 (⊑_refl []) 𝓛 at_mem run b (o + 64 * pages) 0 (4096 * pages) [] in
      lands_as ! e refl (Answer-typed true b o) $ first ! $ switches_on ! (get_tag ! (vrt ! refl (fld ! refl (stop !))) (whole !)) $
      exec ! C Λ En (arm_body 0 both) Then $
      sets ! (of_opd ! (get_in ! (vrt ! refl (fld ! refl (stop !))) (in_variant ! 0 0 refl refl (whole !)))) refl (tt, tt) $
      use1 𝓛 (‵ (room_for_rows pages b o) ⊛ ‵ (fwand (room_for_rows pages b o) (froom (block_type pages) b o))) (apart 𝓛 pages b o) $ split ! $ fsplit ! $
      use1 𝓛 (‵ (lodged u32 p 0 (16 * pages) [])) (row_of_room u32 word_laws 𝓛 b o (16 * pages) (omega arith) (omega arith)) $
      move ! (1 ∷ []) $ use1 𝓛 (‵ (lodged u8 (block_ptr b (o + 64 * pages)) 0 (4096 * pages) [])) (row_of_room u8 byte_laws 𝓛 b (o + 64 * pages) (4096 *
      pages) (omega arith) (omega arith)) $ move ! (1 ∷ []) $
      -- [the words; the bytes; the way back; the token]
      sets ! (of_opd ! (get ! refl)) refl (tt, tt) $
      sets ! (bin ! (lit ! tt) (get ! refl) (record { fits = sixteen })) refl (tt, record { fits = sixteen }) $
      use1 𝓛 (raw ((Lodges u32 (⊑_refl []) 𝓛 at_mem run).pre yw)) (lodge_goes u32 (⊑_refl []) 𝓛 at_mem run b o 0 (16 * pages) [] refl (omega arith) (omega
      arith)) $
      calls_at ! fm (Lodges u32 (⊑_refl []) 𝓛 at_mem run) lw yw (and_then ! (get ! refl) (and_then ! (lit ! tt) (and_then ! (get ! refl) (no_more !)))) (λ uw.
      use1 𝓛 (later (some (λ (r : Vec ℕ Lodged). given (IsLodged u32 (⊑_refl []) 𝓛 at_mem run b o 0 (16 * pages) [] r) (‵ ((Row u32).own_val r (uw ∷ []))))))
      (lodge_gives u32 (⊑_refl []) 𝓛 at_mem run b o 0 (16 * pages) [] uw) $
      await ! tt $ pick ! (λ ws. learn ! (λ iw. tells ! (Row u32) (row_laws u32 word_laws) ws (uw ∷ []) (λ vw ew gw. lands_as ! (ap only ew) refl gw $
      sets ! (bin ! (lit ! tt) (get ! refl) (record { fits = front })) refl (tt, record { fits = front }) $
      sets ! (is ! (bin ! (get ! refl) (get ! refl) tt) (ap (vptr b) behind)) refl (tt, tt) $
      sets ! (bin ! (big 4096 (lit< tt)) (get ! refl) (record { fits = rest })) refl (tt, record { fits = rest }) $ move ! (1 ∷ []) $
      use1 𝓛 (raw ((Lodges u8 (⊑_refl []) 𝓛 at_mem run).pre yb)) (lodge_goes u8 (⊑_refl []) 𝓛 at_mem run b (o + 64 * pages) 0 (4096 * pages) [] refl (omega
      arith) (omega arith)) $
      calls_at ! fm (Lodges u8 (⊑_refl []) 𝓛 at_mem run) lb yb (and_then ! (get ! refl) (and_then ! (lit ! tt) (and_then ! (get ! refl) (no_more !)))) (λ ub.
      use1 𝓛 (later (some (λ (r : Vec ℕ Lodged). given (IsLodged u8 (⊑_refl []) 𝓛 at_mem run b (o + 64 * pages) 0 (4096 * pages) [] r) (‵ ((Row u8).own_val r
      (ub ∷ [])))))) (lodge_gives u8 (⊑_refl []) 𝓛 at_mem run b (o + 64 * pages) 0 (4096 * pages) [] ub) $
      await ! tt $ pick ! (λ bs. learn ! (λ ib. tells ! (Row u8) (row_laws u8 byte_laws) bs (ub ∷ []) (λ vb eb gb. lands_as ! (ap only eb) refl gb $
      -- [the bytes; the words; the way back; the token]
      let block : (Bk Z).Denot = record { start = p; pages = pages; by = record {}; alloc = a } in
      let made : Val = three_val vw vb (block_val p pages) in
      let whole_block : Good (Bk Z) (block_val p pages) = (tt, (tt, (record { fits = fits }, (tt, tt)))) in
      let typed : Good (Three Z) made = as_fields (layout (Row u32) ∷ layout (Row u8) ∷ layout (Bk Z) ∷ []) (vw ∷ vb ∷ block_val p pages ∷ []) (
        gw,
        (
          gb,
          (whole_block, tt),
        ),
      ) in
      let ok = first_Good (layout (Three Z)) made typed in
      sets ! (agg ! (no_more !)) refl (tt, tt) $
      sets ! (of_opd ! (get ! refl)) refl gw $ sets ! (of_opd ! (get ! refl)) refl gb $
      sets ! (agg ! (and_then ! (get ! refl) (and_then ! (get ! refl) (and_then ! (get ! refl) (no_more !))))) refl whole_block $
      sets ! (agg ! (and_then ! (get ! refl) (and_then ! (get ! refl) (and_then ! (get ! refl) (no_more !))))) refl typed $
      sets_last ! (agg ! (and_then ! (lit ! tt) (and_then ! (get ! refl) (no_more !)))) refl ok $
      exec ! C Λ En (after 3 (function Z).body) (at_ret En Post) $ sets ! (of_opd ! (get ! refl)) refl ok $
      move ! (3 ∷ 2 ∷ []) $ fjoin ! $ block_made Z ! a b o pages fits $ move ! (2 ∷ 1 ∷ 0 ∷ []) $
      use3 𝓛 (‵ ((Three Z).own_val (ws, bs, block) (made ∷ []))) (three_of 𝓛 (Row u32) (Row u8) (Bk Z) ws bs block vw vb (block_val p pages)) $
      use1 𝓛 (‵ ((Out Z).own_val (Ok (ws, bs, block)) (live 0 (vcons made vnil) ∷ []))) (ok_of 𝓛 (Three Z) AE.the_row (ws, bs, block) made) $
      returns ! (look_at ! 0 refl) $ free_all ! refl $ keep ! (0 ∷ 1 ∷ 2 ∷ []) $
      by ! (exits (Ok (ws, bs, block)) (live 0 (vcons made vnil)) (iw.0, ib.0, (iw.3, iw.2, ib.3, ib.2, pos, few), refl, refl)))))))))))
      (λ e.
      let Refusal : RattleType = Struct (Declared.shape AE.the_type) in
      let none : Val = live 1 (vcons (vstruct vnil) vnil) in
      lands_as ! e refl (Answer-typed false 0 0) $ first ! $ switches_on ! (get_tag ! (vrt ! refl (fld ! refl (stop !))) (whole !)) $
      exec ! C Λ En (arm_body 1 both) Then $
      sets ! (of_opd ! (get_in ! (vrt ! refl (fld ! refl (stop !))) (in_variant ! 1 0 refl refl (whole !)))) refl (tt, tt) $
      sets_last ! (agg ! (and_then ! (lit ! tt) (and_then ! (get ! refl) (no_more !)))) refl (tt, (record { fits = lit< tt }, (tt, tt))) $
      exec ! C Λ En (after 3 (function Z).body) (at_ret En Post) $ sets ! (of_opd ! (get ! refl)) refl (tt, (record { fits = lit< tt }, (tt, tt))) $
      owned ! Refusal (Is Refusal) (Struct-Makes 𝓛 (Declared.shape AE.the_type) tt) tt (vstruct vnil ∷ []) (tt, (refl, tt)) $
      use1 𝓛 (‵ ((Out Z).own_val (Err (record {})) (none ∷ []))) (err_of 𝓛 (Three Z) AE.the_row (record {}) (vstruct vnil)) $
      returns ! (look_at ! 0 refl) $ free_all ! refl $ keep ! (0 ∷ 1 ∷ 2 ∷ []) $ by ! (exits (Err (record {})) none tt))))

  entry : 0 < pages → pages ≤ 4096 → ent 𝓤 (on_entry 𝓛 (ended Z).signature (κ, (κ₁, tt)) (q, (q₁, tt)) (self, (pages, tt)) (us0, (us1, tt))) (WpFn 𝓤 H C Λ
      (function Z) (us0 ++ (us1 ++ [])) Post)
  entry pos few =
      qed 𝓛 ((‵ (flft κ q) ⊛ others) ∷ ‵ (owns (ShrRef (named 0) κ (P Z) ∷ usize ∷ []) (self, (pages, tt)) (us0, (us1, tt))) ∷ []) ∵ split ! $
      move ! (2 ∷ []) $ fsplit3 ! $ fsplit ! $ feq_l ! (λ e0.
      move ! (1 ∷ []) $ fsplit ! $ feq_l ! (λ e1. flt_l ! (λ fits. keep ! (0 ∷ 2 ∷ 3 ∷ []) $
      by ! (subst (λ (ws : List Val × List Val). ent 𝓤 (⋆ 𝓛 Had) (WpFn 𝓤 H C Λ (function Z) (ws.0 ++ (ws.1 ++ [])) Post)) (λ j. (sym e0 j, sym e1 j)) (walk
      pos few fits)))))

meets : (Z : Al) {M : Type 1} {𝓤 : Ura M} (𝓛 : Logic 𝓤) (at_mem : Memory → SProp 𝓤) (run : Routine → Fun 𝓤) (𝓣 : Tables 𝓤 𝓛.H) → Triple 𝓤 (𝓣.C (takes_key Z))
    (Takes Z 𝓛 at_mem run)
    → Triple 𝓤 (𝓣.C (lodge_key u32)) (Lodges u32 (⊑_refl []) 𝓛 at_mem run) → Triple 𝓤 (𝓣.C (lodge_key u8)) (Lodges u8 (⊑_refl []) 𝓛 at_mem run)
    → Meets 𝓛 (ended Z).signature (WpFn 𝓤 𝓛.H 𝓣.C 𝓣.Λ (function Z)) (closing 𝓛 (ended Z) (clauses Z 𝓛 at_mem run))
meets Z {𝓤 = 𝓤} 𝓛 at_mem run 𝓣 callee lw lb =
    walk_Meets 𝓛 (ended Z) (stayed Z) (
      Goes-dropped 𝓛 2 (RefOf (0 ∷ []) tt (plain (λ _. P Z)) (λ _. tt)) yes (λ κs x f. refl),
      (
        Goes-dropped 𝓛 2 (plain (λ _.
            usize)) yes (λ κs x f. refl),
        tt,
      ),
    )
    (clauses Z 𝓛 at_mem run) (WpFn 𝓤 𝓛.H 𝓣.C 𝓣.Λ (function Z)) (WpFn-mono 𝓤 𝓛.H 𝓛.laws 𝓣 (function Z))
    (λ z. let κs = z.0.0 in let qs = z.0.1 in let a = z.0.3 in let vss = z.0.4 in let On : SProp 𝓤 = on_entry 𝓛 (ended Z).signature κs qs a vss in
    let asks = (0 < a.1.0) × (a.1.0 ≤ 4096) in
    lifetime 𝓤 (κs.1.0 ⊑ Z.row.lives) On (fact 𝓤 asks) (λ within. needs 𝓤 asks On (λ asked.
    entry Z 𝓛 at_mem run 𝓣.C 𝓣.Λ (fm_of 𝓤 𝓛.H 𝓛.laws 𝓣) callee lw lb κs.0 κs.1.0 qs.0 qs.1.0 z.0.2.0 within a.0.ref_ptr.0 a.0.ref_ptr.1 a.0.now a.1.0 vss.0
    vss.1.0 asked.0 asked.1)))

pub allocate_spec : {M : Type 1} → stated.statement M
unfolding tables_of
allocate_spec 𝓤 𝓛 𝓜 𝓡 wired W LW g d dd met md =
    let Z : Al = record { row = W; laws = LW; g = g; d = d; drops = dd } in
    let 𝓣 : Tables 𝓤 𝓛.H = tables_of 𝓤 𝓛.H 𝓜 (tables 𝓤 𝓛.H 𝓜 𝓡 𝓡.env) in
    let lodge_at = code.calls-std_alloc::vec::lodge 𝓡.env wired in
    entered 𝓤 𝓛.H (triple_of 𝓛 (ended Z).signature (F.spec W g d dd 𝓛 𝓜.mem 𝓡.returns)) 𝓣.C 𝓣.Λ (#self (args Z)) (function Z) (code.unfolded 𝓤 𝓛.H 𝓜 𝓡 wired
    (W, tt) d dd)
    (meets Z 𝓛 𝓜.mem 𝓡.returns 𝓣 (met.allocate dd) (lodge_met.met 𝓤 𝓛 𝓜 𝓡 lodge_at u32 word_laws) (lodge_met.met 𝓤 𝓛 𝓜 𝓡 lodge_at u8 byte_laws))
