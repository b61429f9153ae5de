-- `free` makes the block of its rows, and hands it back with the allocator's token. Assumes `Logic`.
use mathlib.Core.Path.{◌≡◌, refl, sym, ap, subst, ◌∙◌}
use Prim.Native.Nat.{ℕ, ◌+◌, ◌*◌, ◌<◌, ◌≤◌, ◌^◌}
use native.Mathlib.Omega.{arith}
use mathlib.Core.List.{List, [], ◌∷◌, ◌++◌}
use lib.Dec.{T, lit<}
use seplogic.Ra.Ura.{Ura}
use mir.Syntax.{Fn, Args, named, w8, w32, w64, a_type, ty_unit, ty_int, ty_array, dcons, dnil}
use mir.MapTy.{inst_fn}
use mir.Val.{Val, vptr, vint, vunit, has_ty, WT}
use base.Logic.{SProp, ent, apply∗, never, id⊢}
use base.Fml.{Lft, Share, ftrue, froom, flft, Incl-trans}
use prog.Memory.{Memory}
use prog.Routine.{Routine}
use prog.Wp.{Env, Calls, Loops, WpFn, Tables}
use contract.BorrowLft.{◌⊑◌, ⊑_refl}
use contract.Monad.{Fun, fact}
use contract.Running.{tables, tables_of}
use sound.WpLaws.{WpFn-mono, FmC, fm_of}
use types.Logic.{Logic, sem}
use types.Kit.{Item, ⋆, ‵, raw, ◌⊛◌, given, later, await, learn, at_ret, ◌$◌, ◌∵◌, !, qed, by, move, keep, use1, use2, split, join, group, rewrite, fsplit}
use types.Kit.{fsplit3, fjoin, feq_i, feq_l, suffices, done}
use types.Part.{whole, sub}
use types.Run.{stop, fld, lit, bin, unit_lit, of_opd, and_then, no_more, first, blocks, exec, returns, enter}
use types.ByLocal.{alloc_all, pass_all, free_all, look_at, get, get_in, sets, is, lands_as, lands_last, env}
use denote.Builtin.{u8, u32, RefOf}
use denote.Exit.{yes, no}
use denote.Memory.{hidden_shr}
use denote.Param.{bounded}
use denote.RattleType.{owns}
use denote.RawPtr.{Ptr, block_ptr, ptr_val, in_a_block, ◌+ₚ◌}
use denote.Ref.{Bor, ShrRef}
use denote.Signature.{plain}
use denote.Steps.{nothing}
use denote.Triple.Call.{calls_at, calls_at_last}
use denote.Triple.Clauses.{Clauses, Ended, closing}
use denote.Triple.Entry.{on_entry}
use denote.Triple.Spec.{Meets, triple_of}
use denote.Triple.Statement.{Triple}
use denote.Triple.Table.{entered}
use denote.Triple.Walked.{needs, Stays, stay_dropped, walk_of, ends_at, Goes-dropped, walk_Meets}
use Rattle.std.proofs.alloc.Calls.{Al, token, gives_key, Gives, at_gives, Gives-goes, Gives-Gives, Goes-blank}
use Rattle.std_alloc.proofs.VecSteps.Shapes.{after}
use Rattle.std_alloc.proofs.vec.lodged.Vec+T+Lodged.dislodge.Met as dislodge_met
use Rattle.std_alloc.specs.Vec.Ownership.{lodged}
use Rattle.std_alloc.specs.declared.vec.Vec.{Vec}
use Rattle.std_alloc.specs.declared.vec.lodged.Lodged.{Lodged}
use Rattle.raw_pages.specs.Block.{block_type, block_owns, room_for_rows}
use Rattle.raw_pages.specs.Seated.{IsSeated}
use Rattle.raw_pages.proofs.Lodging.{Good, Row, row_laws, byte_laws, word_laws, tells, dislodge_key, Dislodges, at_dislodge, dislodge_goes, dislodge_gives}
use Rattle.raw_pages.proofs.Owned.{P, Bk, big, lifetime, block_val, block-Good, block_had}
use Rattle.raw_pages.proofs.Rooms.{block_size, block_align, room_of_row}
use Rattle.raw_pages.specs.contracts.block.rows.free as F
use Rattle.raw_pages.specs.contracts.block.rows.free.Key.{name as #self}
use Rattle.raw_pages.proofs.block.rows.free.Statement as stated
use Rattle.raw_pages.proofs.block.rows.free.Code as code

module _ (Z : Al) where
  abbrev args : Args
  args = bounded (a_type ∷ []) (Z.row, tt) (dcons Z.d (dcons Z.drops dnil))

  abbrev function : Fn
  function = inst_fn args code.function

  abbrev ended : Ended
  ended = F.ended Z.row Z.g Z.d Z.drops

  abbrev clauses : {M : Type 1} {𝓤 : Ura M} (𝓛 : Logic 𝓤) → (Memory → SProp 𝓤) → (Routine → Fun 𝓤) → Clauses 𝓤 ended
  clauses 𝓛 = F.clauses Z.row Z.g Z.d Z.drops 𝓛

  abbrev stayed : Stays ended.signature.params ended.kept
  stayed = (
    stay_dropped (RefOf (0 ∷ []) tt (plain (λ _. P Z)) (λ _. tt)) yes,
    (
      stay_dropped (plain (λ _. Row u32)) yes,
      (
        stay_dropped (plain (λ _. Row u8))
            yes,
        (stay_dropped (plain (λ _. Bk Z)) no, tt),
      ),
    ),
  )

  abbrev Asks : Z.row.Denot → Vec ℕ Lodged → Vec ℕ Lodged → (Bk Z).Denot → Type 0
  Asks a words bytes d = IsSeated words bytes d × (d.alloc ≡ a)

module _ (Z : Al) {M : Type 1} {𝓤 : Ura M} (𝓛 : Logic 𝓤) (at_mem : Memory → SProp 𝓤) (run : Routine → Fun 𝓤) (C : Calls 𝓤 𝓛.H) (Λ : Loops 𝓤 𝓛.H) (fm : FmC 𝓤
    𝓛.H 𝓛.laws C)
    (callee : Triple 𝓤 (C (gives_key Z)) (Gives Z 𝓛 at_mem run)) (lw : Triple 𝓤 (C (dislodge_key u32)) (Dislodges u32 (⊑_refl []) 𝓛 at_mem run)) (lb : Triple
    𝓤 (C (dislodge_key u8)) (Dislodges u8 (⊑_refl []) 𝓛 at_mem run))
    (κ κ₁ : Lft) (q q₁ : Share) (short : κ ⊑ κ₁) (within : κ₁ ⊑ Z.row.lives) (rb ro : ℕ) (a : Z.row.Denot) (words bytes : Vec ℕ Lodged) (d : (Bk Z).Denot)
    (us0 us1 us2 us3 : List Val) where
  open 𝓛 use {H, A}

  abbrev self : Bor Z.row.Denot
  self = record { ref_ptr = (rb, ro); now = a }

  abbrev others : Item 𝓤
  others = ‵ (flft κ₁ q₁) ⊛ ‵ ftrue

  abbrev bound : (walk_of 𝓛 (ended Z) (stayed Z) (clauses Z 𝓛 at_mem run)).Ghost
  bound = (((κ, (κ₁, tt)), (q, (q₁, tt)), (short, tt), (self, (words, (bytes, (d, tt)))), (us0, (us1, (us2, (us3, tt))))), tt)

  abbrev Post : Val → SProp 𝓤
  Post = (walk_of 𝓛 (ended Z) (stayed Z) (clauses Z 𝓛 at_mem run)).post bound

  exits : ent 𝓤 (⋆ 𝓛 (‵ (flft κ q) ∷ others ∷ [])) (Post vunit)
  exits =
      qed 𝓛 (‵ (flft κ q) ∷ others ∷ []) ∵
      suffices ! _ (ends_at 𝓛 (ended Z) (stayed Z) (clauses Z 𝓛 at_mem run) bound vunit tt (tt, (tt, (tt, (tt, tt)))) (tt, (tt, (tt, (tt, tt))))) $
      join ! $ feq_i ! (List Val) (vunit ∷ []) (vunit ∷ []) refl $ nothing ! $ nothing ! $ fjoin ! $ nothing ! $ fjoin ! $ nothing ! $ fjoin ! $ nothing ! $
      fjoin ! $ join ! $
      move ! (1 ∷ 0 ∷ []) $ join ! $ nothing ! $ move ! (1 ∷ 0 ∷ []) $ done !

  abbrev Had : Val → Val → List (Item 𝓤)
  Had vw vb = ‵ ((Row u32).own_val words (vw ∷ [])) ∷ ‵ ((Row u8).own_val bytes (vb ∷ [])) ∷ ‵ (block_owns (token Z d.alloc) d.start d.pages) ∷ ‵ (hidden_shr
      (P Z) κ a rb ro) ∷ ‵ (flft κ q) ∷ others ∷ []

  walk : (vw vb : Val) → Good (Row u32) vw → Good (Row u8) vb → Asks Z a words bytes d → ent 𝓤 (⋆ 𝓛 (Had vw vb)) (WpFn 𝓤 H C Λ (function Z) (vptr rb ro ∷ vw
      ∷ vb ∷ block_val d.start d.pages ∷ []) Post)
  walk vw vb gw gb asked =
      let seated = asked.0 in
      let pos : 0 < d.pages = seated.4 in
      let few : d.pages ≤ 4096 = seated.5 in
      let fits : d.pages < 2 ^ 64 = omega arith in
      let total : 4160 * d.pages < 2 ^ 64 = omega arith in
      let W = Dislodges u32 (⊑_refl []) 𝓛 at_mem run in
      let B = Dislodges u8 (⊑_refl []) 𝓛 at_mem run in
      let yw = at_dislodge u32 (⊑_refl []) 𝓛 at_mem run words vw in
      let yb = at_dislodge u8 (⊑_refl []) 𝓛 at_mem run bytes vb in
      qed 𝓛 (Had vw vb) ∵ enter ! C Λ (function Z) (vptr rb ro ∷ vw ∷ vb ∷ block_val d.start d.pages ∷ []) _ $
      alloc_all ! (λ l. pass_all ! refl ((tt, tt), (gw, (gb, (block-Good d.start d.pages fits, tt)))) $
      let En : Env 𝓤 H = env (function Z).locals l in
      move ! (2 ∷ []) $ in_a_block ! d.start (λ p. block_owns (token Z d.alloc) p d.pages) (id⊢ 𝓤 (never 𝓤)) (λ b o e.
      let y : (Gives Z 𝓛 at_mem run).Ghost = at_gives Z 𝓛 at_mem run κ q (rb, ro) a b o (4160 * d.pages) 4 (block_type d.pages) in
      fsplit ! $ rewrite ! 0 (λ (z : Z.row.Denot). ‵ (token Z z (block_type d.pages) (block_ptr b o))) asked.1 refl $
      -- [the token; the way back; the words; the bytes; the handle; its lifetime's token]
      sets ! (is ! (of_opd ! (get_in ! (fld ! refl (stop !)) (sub ! 0 refl (whole !)))) (ap ptr_val e)) refl (tt, tt) $
      sets ! (of_opd ! (get_in ! (fld ! refl (stop !)) (sub ! 1 refl (whole !)))) refl (tt, record { fits = fits }) $
      sets ! (of_opd ! (get ! refl)) refl gw $ move ! (2 ∷ []) $ use1 𝓛 (raw (W.pre yw)) (dislodge_goes u32 (⊑_refl []) 𝓛 at_mem run words vw) $
      calls_at ! fm W lw yw (and_then ! (get ! refl) (no_more !)) (λ uw.
      use1 𝓛 (later (given ((uw ≡ vint w64 words.len) × (words.len < 2 ^ 64)) (‵ (lodged u32 words.ptr words.len words.cap words.items)))) (dislodge_gives
      u32 (⊑_refl []) 𝓛 at_mem run words vw uw) $ await ! tt $ learn ! (λ iw.
      lands_as ! iw.0 refl (tt, record { fits = iw.1 }) $
      sets ! (of_opd ! (get ! refl)) refl gb $ move ! (3 ∷ []) $ use1 𝓛 (raw (B.pre yb)) (dislodge_goes u8 (⊑_refl []) 𝓛 at_mem run bytes vb) $
      calls_at ! fm B lb yb (and_then ! (get ! refl) (no_more !)) (λ ub.
      use1 𝓛 (later (given ((ub ≡ vint w64 bytes.len) × (bytes.len < 2 ^ 64)) (‵ (lodged u8 bytes.ptr bytes.len bytes.cap bytes.items)))) (dislodge_gives u8
      (⊑_refl []) 𝓛 at_mem run bytes vb ub) $ await ! tt $ learn ! (λ ib.
      lands_as ! ib.0 refl (tt, record { fits = ib.1 }) $
      -- [the bytes; the words; the token; the way back; the handle; its lifetime's token]
      let words_at : words.ptr ≡ block_ptr b o = seated.0 ∙ e in
      let bytes_at : bytes.ptr ≡ block_ptr b (o + 64 * d.pages) = seated.2 ∙ ap (λ p. p +ₚ (64 * d.pages)) e in
      rewrite ! 0 (λ (z : Ptr × ℕ). ‵ (lodged u8 z.0 bytes.len z.1 bytes.items)) {x = (block_ptr b (o + 64 * d.pages), 4096 * d.pages)} (λ i. (
        bytes_at i,
        seated.3 i,
      )) refl $
      use1 𝓛 (‵ (froom (ty_array (ty_int w8) (4096 * d.pages)) b (o + 64 * d.pages))) (room_of_row u8 byte_laws 𝓛 b (o + 64 * d.pages) (4096 * d.pages)
      (omega arith) bytes.len bytes.items (omega (arith, bytes.ok.1, seated.3))) $ move ! (1 ∷ []) $
      rewrite ! 0 (λ (z : Ptr × ℕ). ‵ (lodged u32 z.0 words.len z.1 words.items)) {x = (block_ptr b o, 16 * d.pages)} (λ i. (words_at i, seated.1 i)) refl $
      use1 𝓛 (‵ (froom (ty_array (ty_int w32) (16 * d.pages)) b o)) (room_of_row u32 word_laws 𝓛 b o (16 * d.pages) (omega arith) words.len words.items
      (omega (arith, words.ok.1, seated.1))) $ fjoin ! $ move ! (0 ∷ 2 ∷ []) $
      use2 𝓛 (‵ (froom (block_type d.pages) b o)) (apply∗ 𝓤 (sem 𝓛 (room_for_rows d.pages b o)) (H.room (block_type d.pages) b o)) $
      -- [room for the block; the token; the handle; its lifetime's token]
      first ! $ blocks ! $ sets ! (bin ! (big 4160 (lit< tt)) (get ! refl) (record { fits = total })) refl (tt, record { fits = total }) $
      group ! 4 $ use1 𝓛 (raw ((Gives Z 𝓛 at_mem run).pre y)) (Gives-goes Z 𝓛 at_mem run κ q (rb, ro) a (Incl-trans short within) b o (4160 * d.pages) 4
      (block_type d.pages) (block_size d.pages few) (block_align d.pages) total (lit< tt)) $
      calls_at_last ! fm (Gives Z 𝓛 at_mem run) callee y (and_then ! (get ! refl) (and_then ! (get ! refl) (and_then ! (get ! refl) (and_then ! (lit ! tt)
      (no_more !))))) (λ v.
      use1 𝓛 (later (given (v ≡ vunit) (‵ (flft κ q)))) (Gives-Gives Z 𝓛 at_mem run κ q (rb, ro) a b o (4160 * d.pages) 4 (block_type d.pages) v) $
      await ! tt $ learn ! (λ done_with.
      lands_last ! refl (subst (λ (z : Val). T (has_ty ty_unit z) × WT z) (sym done_with) (tt, tt)) $
      exec ! C Λ En (after 7 (function Z).body) (at_ret En Post) $
      sets ! (of_opd ! (unit_lit !)) refl (tt, tt) $ returns ! (look_at ! 0 refl) $ free_all ! refl $ keep ! (0 ∷ 1 ∷ []) $ by ! exits))))))))

  entry : Asks Z a words bytes d → ent 𝓤 (on_entry 𝓛 (ended Z).signature (κ, (κ₁, tt)) (q, (q₁, tt)) (self, (words, (bytes, (d, tt)))) (
    us0,
    (
      us1,
      (
        us2,
        (us3, tt),
      ),
    ),
  )) (WpFn 𝓤 H C Λ (function Z) (us0 ++ (us1 ++ (us2 ++ (us3 ++ [])))) Post)
  entry asked =
      qed 𝓛 ((‵ (flft κ q) ⊛ others) ∷ ‵ (owns (ShrRef (named 0) κ (P Z) ∷ Row u32 ∷ Row u8 ∷ Bk Z ∷ []) (self, (words, (bytes, (d, tt)))) (
        us0,
        (
          us1,
          (
            us2,
            (us3, tt),
          ),
        ),
      )) ∷ []) ∵ split ! $ move ! (2 ∷ []) $ fsplit3 ! $ fsplit ! $ feq_l ! (λ e0.
      move ! (1 ∷ []) $ tells ! (Row u32) (row_laws u32 word_laws) words us1 (λ vw e1 gw. move ! (2 ∷ []) $ fsplit ! $
      tells ! (Row u8) (row_laws u8 byte_laws) bytes us2 (λ vb e2 gb. move ! (1 ∷ []) $ fsplit ! $
      block_had Z ! d us3 (λ e3. keep ! (3 ∷ 2 ∷ 0 ∷ 4 ∷ 5 ∷ 6 ∷ []) $
      by ! (subst (λ (ws : List Val × List Val × List Val × List Val). ent 𝓤 (⋆ 𝓛 (Had vw vb)) (WpFn 𝓤 H C Λ (function Z) (ws.0 ++ (ws.1 ++ (ws.2 ++ (ws.3 ++
      [])))) Post)) (λ j. (sym e0 j, sym e1 j, sym e2 j, sym e3 j)) (walk vw vb gw gb asked))))))

meets : (Z : Al) {M : Type 1} {𝓤 : Ura M} (𝓛 : Logic 𝓤) (at_mem : Memory → SProp 𝓤) (run : Routine → Fun 𝓤) (𝓣 : Tables 𝓤 𝓛.H) → Triple 𝓤 (𝓣.C (gives_key Z))
    (Gives Z 𝓛 at_mem run)
    → Triple 𝓤 (𝓣.C (dislodge_key u32)) (Dislodges u32 (⊑_refl []) 𝓛 at_mem run) → Triple 𝓤 (𝓣.C (dislodge_key u8)) (Dislodges u8 (⊑_refl []) 𝓛 at_mem run)
    → Meets 𝓛 (ended Z).signature (WpFn 𝓤 𝓛.H 𝓣.C 𝓣.Λ (function Z)) (closing 𝓛 (ended Z) (clauses Z 𝓛 at_mem run))
meets Z {𝓤 = 𝓤} 𝓛 at_mem run 𝓣 callee lw lb =
    walk_Meets 𝓛 (ended Z) (stayed Z) (
      Goes-dropped 𝓛 2 (RefOf (0 ∷ []) tt (plain (λ _. P Z)) (λ _. tt)) yes (λ κs x f. refl),
      (
        Goes-blank 𝓛 2 (plain (λ _.
            Row u32)) yes (λ κs x f. tt),
        (Goes-blank 𝓛 2 (plain (λ _. Row u8)) yes (λ κs x f. tt), (Goes-blank 𝓛 2 (plain (λ _. Bk Z)) no (λ κs x f. tt), tt)),
      ),
    )
    (clauses Z 𝓛 at_mem run) (WpFn 𝓤 𝓛.H 𝓣.C 𝓣.Λ (function Z)) (WpFn-mono 𝓤 𝓛.H 𝓛.laws 𝓣 (function Z))
    (λ z. let κs = z.0.0 in let qs = z.0.1 in let a = z.0.3 in let vss = z.0.4 in let On : SProp 𝓤 = on_entry 𝓛 (ended Z).signature κs qs a vss in
    let asks = Asks Z a.0.now a.1.0 a.1.1.0 a.1.1.1.0 in
    lifetime 𝓤 (κs.1.0 ⊑ Z.row.lives) On (fact 𝓤 asks) (λ within. needs 𝓤 asks On
    (entry Z 𝓛 at_mem run 𝓣.C 𝓣.Λ (fm_of 𝓤 𝓛.H 𝓛.laws 𝓣) callee lw lb κs.0 κs.1.0 qs.0 qs.1.0 z.0.2.0 within a.0.ref_ptr.0 a.0.ref_ptr.1 a.0.now a.1.0
    a.1.1.0 a.1.1.1.0 vss.0 vss.1.0 vss.1.1.0 vss.1.1.1.0)))

pub free_spec : {M : Type 1} → stated.statement M
unfolding tables_of
free_spec 𝓤 𝓛 𝓜 𝓡 wired W LW g d dd met md =
    let Z : Al = record { row = W; laws = LW; g = g; d = d; drops = dd } in
    let 𝓣 : Tables 𝓤 𝓛.H = tables_of 𝓤 𝓛.H 𝓜 (tables 𝓤 𝓛.H 𝓜 𝓡 𝓡.env) in
    let dislodge_at = code.calls-std_alloc::vec::lodged::Vec+T+Lodged::dislodge 𝓡.env wired in
    entered 𝓤 𝓛.H (triple_of 𝓛 (ended Z).signature (F.spec W g d dd 𝓛 𝓜.mem 𝓡.returns)) 𝓣.C 𝓣.Λ (#self (args Z)) (function Z) (code.unfolded 𝓤 𝓛.H 𝓜 𝓡 wired
    (W, tt) d dd)
    (meets Z 𝓛 𝓜.mem 𝓡.returns 𝓣 (met.deallocate dd) (dislodge_met.met 𝓤 𝓛 𝓜 𝓡 dislodge_at u32 word_laws) (dislodge_met.met 𝓤 𝓛 𝓜 𝓡 dislodge_at u8 byte_laws))
