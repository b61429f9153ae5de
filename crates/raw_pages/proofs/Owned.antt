-- What a `Block` owns is taken apart and made, and a triple is made of its parts. Assumes `Logic`.
use mathlib.Core.Path.{◌≡◌, refl, ◌∙◌}
use Prim.Native.Nat.{ℕ, ◌<◌, ◌^◌}
use mathlib.Core.List.{List, [], ◌∷◌, ◌++◌}
use seplogic.Ra.Ura.{Ura}
use base.Logic.{SProp, ent, sep, via, guard_i, snd∗, fst∗, mono_r}
use contract.Monad.{fact, fact_use}
use mir.Syntax.{Ty, int_big, w64, ty_ptr, ty_int, ty_struct, tcons, tnil}
use mir.Val.{Val, vint, vptr, vstruct, vcons, vnil, of_list, has_ty, WT, Fits}
use lib.Dec.{T}
use prog.Wp.{Env}
use types.Logic.{Logic, sem}
use types.Run.{Opd}
use types.Kit.{Goal, Step, step, Seq, Item, ‵, ◌$◌, ◌∵◌, !, qed, move, drop, fsplit, fjoin, fpick, fpack, feq_l, feq_i, done}
use denote.Param.{param}
use denote.RattleType.{RattleType, Valss}
use denote.RawPtr.{Ptr, block_ptr, ptr_val}
use denote.Shadow.{pure_i}
use denote.Steps.{nothing}
use denote.Struct.Declared as Declared
use denote.Struct.Owning.{shape}
use denote.Struct.Struct.{Struct, within, as_fields}
use denote.Struct.Tuple.{Tuple, tuple_type}
use Rattle.std.proofs.alloc.Calls.{Al, token}
use Rattle.std_alloc.proofs.RcSteps.{Ptr-Good}
use Rattle.raw_pages.specs.Block.{block_owns}
use Rattle.raw_pages.specs.contracts.block.Block as B

abbrev pub P : Al → RattleType
P Z = param 0 Z.row

abbrev pub Bk : Al → RattleType
Bk Z = B.the_row (P Z) Z.g

abbrev pub block_val : Ptr → ℕ → Val
block_val p n = vstruct (vcons (ptr_val p) (vcons (vint w64 n) (vcons (vstruct vnil) vnil)))

abbrev block_shape : Ty
block_shape = ty_struct [] (tcons ty_ptr (tcons (ty_int w64) (tcons (ty_struct [] tnil) tnil)))

pub block-Good : (p : Ptr) (n : ℕ) → n < 2 ^ 64 → T (has_ty block_shape (block_val p n)) × WT (block_val p n)
block-Good p n fits = as_fields (ty_ptr ∷ ty_int w64 ∷ ty_struct [] tnil ∷ []) (ptr_val p ∷ vint w64 n ∷ vstruct vnil ∷ []) (
  Ptr-Good p,
  (
    (
      tt,
      record {
        fits
            = fits;
      },
    ),
    ((tt, tt), tt),
  ),
)

abbrev pub three_val : Val → Val → Val → Val
three_val u v w = vstruct (vcons u (vcons v (vcons w vnil)))

pub three_of : {M : Type 1} {𝓤 : Ura M} (𝓛 : Logic 𝓤) (R S T : RattleType) (x : R.Denot) (y : S.Denot) (z : T.Denot) (u v w : Val)
    → ent 𝓤 (sep 𝓤 (sem 𝓛 (R.own_val x (u ∷ []))) (sep 𝓤 (sem 𝓛 (S.own_val y (v ∷ []))) (sem 𝓛 (T.own_val z (w ∷ []))))) (sem 𝓛 ((Tuple (R ∷ S ∷ T ∷
    [])).own_val (x, y, z) (three_val u v w ∷ [])))
three_of 𝓛 R S T x y z u v w =
    qed 𝓛 (‵ (R.own_val x (u ∷ [])) ∷ ‵ (S.own_val y (v ∷ [])) ∷ ‵ (T.own_val z (w ∷ [])) ∷ []) ∵ nothing ! $ move ! (3 ∷ 0 ∷ []) $ fjoin ! $
    move ! (2 ∷ 0 ∷ []) $ fjoin ! $ move ! (1 ∷ 0 ∷ []) $ fjoin ! $
    feq_i ! (List Val) (three_val u v w ∷ []) (three_val u v w ∷ []) refl $ fjoin ! $
    fpack ! (Valss (R ∷ S ∷ T ∷ [])) (within (Declared.shape (tuple_type (R ∷ S ∷ T ∷ []))) (x, (y, (z, tt))) (three_val u v w ∷ [])) (
      u ∷ [],
      (
        v ∷ [],
        (
          w ∷
              [],
          tt,
        ),
      ),
    ) $ done !

-- of a `requires` under one type parameter, the fact about its lifetime
pub lifetime : {M : Type 1} (𝓤 : Ura M) (ψ : Type 0) (Q R : SProp 𝓤) {G : SProp 𝓤} → (ψ → ent 𝓤 (sep 𝓤 Q R) G) → ent 𝓤 (sep 𝓤 Q (sep 𝓤 (fact 𝓤 ψ) R)) G
lifetime 𝓤 ψ Q R k =
    let S : SProp 𝓤 = sep 𝓤 (fact 𝓤 ψ) R in
    fact_use 𝓤 ψ (via 𝓤 S (snd∗ 𝓤 Q S) (fst∗ 𝓤 (fact 𝓤 ψ) R)) (λ x. via 𝓤 (sep 𝓤 Q R) (mono_r 𝓤 Q {Q = S} {Q' = R} (snd∗ 𝓤 (fact 𝓤 ψ) R)) (k x))

-- a constant above a byte
pub big : {M : Type 1} {𝓤 : Ura M} {𝓛 : Logic 𝓤} {K : Type 0} {Γ : List (Item 𝓤)} {E : Env 𝓤 𝓛.H} → (n : ℕ) → n < 2 ^ 64 → Opd K 𝓛 Γ E (int_big w64 n) (vint
    w64 n)
big {𝓤 = 𝓤} n small = record { go = λ Kt h. via 𝓤 (Kt (vint w64 n)) h (guard_i 𝓤 (Fits w64 n) (Kt (vint w64 n)) (record { fits = small })) }

module _ (Z : Al) {M : Type 1} {𝓤 : Ura M} {𝓛 : Logic 𝓤} {K : Type 0} {Γ : List (Item 𝓤)} {G : Goal 𝓤 𝓛.H} where
  pub block_had : K → (d : (Bk Z).Denot) (vs : List Val)
      → (vs ≡ block_val d.start d.pages ∷ [] → Seq K 𝓛 (‵ (block_owns (token Z d.alloc) d.start d.pages) ∷ Γ) G) → Seq K 𝓛 (‵ ((Bk Z).own_val d vs) ∷ Γ) G
  block_had t d vs k =
      fsplit t $ fpick t (λ vss. fsplit t $ feq_l t (λ all. fsplit t $ feq_l t (λ e₀. fsplit t $ fsplit t $ feq_l t (λ e₁. drop t $ fsplit t $
      fpick t (λ none. fsplit t $ feq_l t (λ e₂. drop t $ drop t $
      k (all ∙ (λ i. vstruct (of_list (e₀ i ++ (e₁ i ++ (e₂ i ++ [])))) ∷ []))))))))

  pub block_made : K → (a : Z.row.Denot) (b o n : ℕ) → n < 2 ^ 64
      → Step K 𝓛 (‵ ((Bk Z).own_val (record { start = block_ptr b o; pages = n; by = record {}; alloc = a }) (block_val (block_ptr b o) n ∷ [])) ∷ Γ) G (‵
      (block_owns (token Z a) (block_ptr b o) n) ∷ Γ) G
  block_made t a b o n fn = step (λ s.
      pure_i t ((Struct (shape (B.the_type (P Z) Z.g))).own_val (block_ptr b o, (n, (tt, tt))) (block_val (block_ptr b o) n ∷ [])) (λ vss. (
        tt,
        (
          tt,
          (
            (
              tt,
              tt,
            ),
            ((λ uss. (tt, tt)), tt),
          ),
        ),
      ))
      ((vptr b o ∷ [], (vint w64 n ∷ [], (vstruct vnil ∷ [], tt))), (refl, (refl, ((refl, fn), ((tt, (refl, tt)), tt))))) $ fjoin t $ s)
