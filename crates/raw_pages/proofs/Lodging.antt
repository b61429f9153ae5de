-- `lodge` and `dislodge` at a call, for numbers. Assumes `Logic`.
use mathlib.Core.Path.{◌≡◌, refl, ap, ◌∙◌}
use Prim.Native.Nat.{ℕ, ◌<◌, ◌≤◌, ◌^◌}
use native.Mathlib.Omega.{arith}
use mathlib.Core.List.{List, [], ◌∷◌}
use lib.ListN.{length}
use lib.Dec.{T}
use seplogic.Ra.Ura.{Ura}
use base.Fraction.{full_share}
use base.Fml.{ftrue, fsep, flft}
use base.Logic.{SProp, ent, ex, guard, emp, id⊢}
use mir.Syntax.{Callee, a_type, w64, given as dict_at}
use mir.Val.{Val, vint, vptr, has_ty, WT}
use prog.Memory.{Memory}
use prog.Routine.{Routine}
use contract.BorrowLft.{◌⊑◌}
use contract.Monad.{Fun, fact, fact_i}
use types.Logic.{Logic, sem}
use types.Kit.{Goal, Seq, Item, ‵, raw, ◌⊛◌, some, later, ◌$◌, ◌∵◌, !, qed, move, use0, use1, drop, split, split3, join, pick, fsplit, fjoin, feq_l, feq_i}
use types.Kit.{flt_l, flt_i, check, show, await, updating, now as at_once, done}
use denote.Builtin.{u8, u32, usize}
use denote.Exit.{no, left as left_at}
use denote.Param.{layout, layouts, param}
use denote.Param.Laws.{Laws, of_field}
use denote.Param.Shared.{copy_shared}
use denote.RattleType.{RattleType}
use denote.RawPtr.{block_ptr}
use denote.Steps.{only, nothing, heard}
use denote.Struct.Field.{u8-field, u32-field}
use denote.Struct.Laws.{u8-laws, u8-copy, u32-laws, u32-copy}
use denote.Triple.Spec.{triple_of}
use denote.Triple.Statement.{Contract}
use Rattle.std.proofs.alloc.Calls.{handle_tells}
use Rattle.std_alloc.specs.Vec.Ownership.{lodged}
use Rattle.std_alloc.specs.declared.vec.Vec.{Vec}
use Rattle.std_alloc.specs.declared.vec.lodged.Lodged.{Lodged}
use Rattle.std_alloc.specs.contracts.vec.Vec as V
use Rattle.std_alloc.specs.contracts.vec.lodged.Lodged as L
use Rattle.std_alloc.specs.contracts.vec.lodged.LodgedAllocator.TheImpl.{ghosts}
use Rattle.std_alloc.specs.contracts.vec.lodge as LG
use Rattle.std_alloc.specs.contracts.vec.lodge.Key.{name as lodge_name}
use Rattle.std_alloc.specs.contracts.vec.lodged.Vec+T+Lodged.dislodge as DL
use Rattle.std_alloc.specs.contracts.vec.lodged.Vec+T+Lodged.dislodge.Key.{name as dislodge_name}
use Rattle.std_alloc.proofs.vec.Vec.TheLaws as vec_laws
use Rattle.std_alloc.proofs.vec.lodged.Lodged.TheLaws as lodged-laws

abbrev pub byte_laws : Laws u8
byte_laws = of_field u8-field u8-laws refl (copy_shared u8-field u8-copy)

abbrev pub word_laws : Laws u32
word_laws = of_field u32-field u32-laws refl (copy_shared u32-field u32-copy)

-- the type of a row
abbrev pub Row : RattleType → RattleType
Row R = V.the_row R L.the_row ghosts

abbrev pub row_laws : (R : RattleType) → Laws R → Laws (Row R)
row_laws R laws = vec_laws.the_row_laws R L.the_row ghosts laws lodged-laws.the_row_laws

abbrev pub Good : RattleType → Val → Type 0
Good R v = T (has_ty (layout R) v) × WT v

abbrev pub lodge_key : RattleType → Callee
lodge_key Y = lodge_name (layouts (a_type ∷ []) (Y, tt))

abbrev pub dislodge_key : RattleType → Callee
dislodge_key Y = dislodge_name (layouts (a_type ∷ []) (Y, tt))

module _ {M : Type 1} {𝓤 : Ura M} {𝓛 : Logic 𝓤} {K : Type 0} {Γ : List (Item 𝓤)} {G : Goal 𝓤 𝓛.H} where
  -- what is owned is one machine value, of its type
  pub tells : K → (R : RattleType) → Laws R → (x : R.Denot) (vs : List Val) → ((v : Val) → vs ≡ v ∷ [] → Good R v → Seq K 𝓛 (‵ (R.own_val x (v ∷ [])) ∷ Γ) G)
      → Seq K 𝓛 (‵ (R.own_val x vs) ∷ Γ) G
  tells t R laws = handle_tells (record { row = R; laws = laws; g = record { dealloc_token = λ a τ p. ftrue }; d = dict_at 0; drops = dict_at 0 }) t

module _ (Y : RattleType) (free : [] ⊑ Y.lives) {M : Type 1} {𝓤 : Ura M} (𝓛 : Logic 𝓤) (at_mem : Memory → SProp 𝓤) (run : Routine → Fun 𝓤) where
  open 𝓛 use {H}

  abbrev pub Lodges : Contract 𝓤
  Lodges = triple_of 𝓛 (LG.signature Y) (LG.spec Y 𝓛 at_mem run)

  abbrev pub Dislodges : Contract 𝓤
  Dislodges = triple_of 𝓛 (DL.signature Y) (DL.spec Y 𝓛 at_mem run)

  module _ (b o n c : ℕ) (xs : List Y.Denot) where
    abbrev pub at_lodge : Lodges.Ghost
    at_lodge = ((([], tt), (full_share, tt), tt, (block_ptr b o, (n, (c, tt))), (vptr b o ∷ [], (vint w64 n ∷ [], (vint w64 c ∷ [], tt)))), xs)

    abbrev pub IsLodged : Vec Y.Denot Lodged → Type 0
    IsLodged r = (r.items ≡ xs) × (r.len ≡ n) × (r.cap ≡ c) × (r.ptr ≡ block_ptr b o)

    pub lodge_goes : n ≡ length xs → n ≤ c → c < 2 ^ 63 → ent 𝓤 (sem 𝓛 (lodged (param 0 Y) (block_ptr b o) n c xs)) (Lodges.pre at_lodge)
    lodge_goes e le few =
        let Asked : Type 0 = (n ≡ length xs) × (n ≤ c) × (c < 2 ^ 63) in
        qed 𝓛 (‵ (lodged (param 0 Y) (block_ptr b o) n c xs) ∷ []) ∵ use0 𝓛 (raw (fact 𝓤 Asked)) (fact_i 𝓤 Asked (emp 𝓤) (e, le, few)) $ join ! $
        use0 𝓛 (raw (fact 𝓤 ([] ⊑ Y.lives))) (fact_i 𝓤 ([] ⊑ Y.lives) (emp 𝓤) free) $ join ! $
        nothing ! $ flt_i ! c (2 ^ 64) (omega arith) $ feq_i ! (List Val) (vint w64 c ∷ []) (vint w64 c ∷ []) refl $ fjoin ! $ fjoin ! $
        flt_i ! n (2 ^ 64) (omega arith) $ feq_i ! (List Val) (vint w64 n ∷ []) (vint w64 n ∷ []) refl $ fjoin ! $ fjoin ! $
        feq_i ! (List Val) (vptr b o ∷ []) (vptr b o ∷ []) refl $ fjoin ! $ nothing ! $ use0 𝓛 (‵ (flft [] full_share)) (𝓛.lfts.lft-nil full_share) $
        join ! $ join ! $ done !

    pub lodge_gives : (v : Val) → ent 𝓤 (Lodges.post at_lodge v) (H.⇛ (ex 𝓤 (λ (r : Vec Y.Denot Lodged). guard 𝓤 (IsLodged r) (sem 𝓛 ((Row (param 0
        Y)).own_val r (v ∷ []))))))
    lodge_gives v =
        qed 𝓛 (raw (Lodges.post at_lodge v) ∷ []) ∵ updating ! $
        use1 𝓛 (later (some (λ (r : Vec Y.Denot Lodged). ((‵ (flft [] full_share) ⊛ ‵ ftrue) ⊛ ‵ ((Row (param 0 Y)).own_val r (v ∷ [])))
        ⊛ some (λ (ws : Unit {0} × (Unit {0} × (Unit {0} × Unit {0}))). ‵ (fsep ftrue (fsep ftrue (fsep ftrue ftrue))) ⊛ raw (fact 𝓤 (IsLodged r)))))) (id⊢ 𝓤
        _) $ await ! tt $ pick ! (λ r.
        split ! $ move ! (1 ∷ []) $ pick ! (λ ws. split ! $ drop ! $ heard ! (IsLodged r) (λ is. split ! $ drop ! $ at_once ! $
        show ! (λ (z : Vec Y.Denot Lodged). guard 𝓤 (IsLodged z) (sem 𝓛 ((Row (param 0 Y)).own_val z (v ∷ [])))) r $ check ! is $ done !)))

  module _ (d : Vec Y.Denot Lodged) (u : Val) where
    abbrev pub at_dislodge : Dislodges.Ghost
    at_dislodge = ((([], tt), (full_share, tt), tt, (d, tt), (u ∷ [], tt)), tt)

    pub dislodge_goes : ent 𝓤 (sem 𝓛 ((Row (param 0 Y)).own_val d (u ∷ []))) (Dislodges.pre at_dislodge)
    dislodge_goes =
        qed 𝓛 (‵ ((Row (param 0 Y)).own_val d (u ∷ [])) ∷ []) ∵ nothing ! $ use0 𝓛 (raw (fact 𝓤 ([] ⊑ Y.lives))) (fact_i 𝓤 ([] ⊑ Y.lives) (emp 𝓤) free) $
        join ! $
        nothing ! $ move ! (2 ∷ 0 ∷ []) $ fjoin ! $ nothing ! $ use0 𝓛 (‵ (flft [] full_share)) (𝓛.lfts.lft-nil full_share) $ join ! $ join ! $ done !

    pub dislodge_gives : (v : Val) → ent 𝓤 (Dislodges.post at_dislodge v)
        (H.⇛ (guard 𝓤 ((v ≡ vint w64 d.len) × (d.len < 2 ^ 64)) (sem 𝓛 (lodged (param 0 Y) d.ptr d.len d.cap d.items))))
    dislodge_gives v =
        qed 𝓛 (raw (Dislodges.post at_dislodge v) ∷ []) ∵ updating ! $
        use1 𝓛 (later (some (λ (r : ℕ). ((‵ (flft [] full_share) ⊛ ‵ ftrue) ⊛ ‵ (usize.own_val r (v ∷ [])))
        ⊛ some (λ (ws : Unit {0} × Unit {0}). ‵ (fsep (left_at ((Row (param 0 Y)).exit no) d ws.0) ftrue) ⊛ raw (fact 𝓤 (r ≡ d.len)) ⊛ ‵ (lodged (param 0 Y)
        d.ptr d.len d.cap d.items))))) (id⊢ 𝓤 _) $ await ! tt $ pick ! (λ r.
        split ! $ move ! (1 ∷ []) $ pick ! (λ ws. split3 ! $ drop ! $ heard ! (r ≡ d.len) (λ is. move ! (1 ∷ []) $ split ! $ drop ! $ fsplit ! $
        feq_l ! (λ e. flt_l ! (λ f. at_once ! $
        check ! (ap only e ∙ ap (vint w64) is, omega arith) $ done !)))))
