-- The making of a union that lowering takes: its member is a word.
use Rattle.std.proofs.Common.{◌≡◌, ℕ, zero, suc, Bool, true, false, Option, Some, None, List, [], ◌∷◌, refl, sym, subst, ap, ◌∙◌}
use Rattle.std.specs.Prelude.{slice_get}
use Rattle.std.proofs.lemmas.Bool.{false≢true}
use Rattle.cyc_tree.specs.Tree as tree
use Rattle.cyc_tree.specs.Tree.{Expression}
use Rattle.source_lowering.specs.Lowerable.{Takes, TakesWhole}
use Rattle.source_lowering.specs.Lowered.{Named}
use Rattle.source_meaning.specs.Shapes.{UnionShape, has_tag, parts_of}
use Rattle.source_meaning.specs.Steps.{World}
use Rattle.source_typing.specs.Calls.{arguments_fit, if_union, union_made, union_member, union_tag}
use Rattle.source_typing.specs.Regions.{Region}
use Rattle.source_typing.specs.Scope.{Env, Seat, Value, is_place, value}
use Rattle.source_typing.specs.Tables.{Arrayed, Counter, Entry, OfBuiltin, OfFunction, OfOther, OfTag, OfValue, Part, Stored, Tag, Unknown, argument, part_in}
use Rattle.source_typing.specs.Types.{StaticType, Union, renamed}
use Rattle.source_typing.specs.Verdicts.{Of, other_kind}
use Rattle.source_typing.specs.Written.{if_sound}
use Rattle.source_typing.proofs.CallsFit.{AllConvert, arguments_are}
use Rattle.source_typing.proofs.Inversion.{after_is, of_is}
use Rattle.type_proof.proofs.expressions.WordRules.{Valued, value_of}
use Rattle.type_proof.proofs.invariant.Unions.{Placed, part_placed}
use Rattle.accepted_proof.proofs.Known.{IsKnownValue, IsWord, converts_word}
use Rattle.accepted_proof.proofs.lowered.Calls.{word_renamed}
use Rattle.accepted_proof.proofs.lowered.Forms.{AreWords, IsTaken, KnownEntry, KnownKind, KnownUnion, TakenAs, word_is}
use Rattle.type_proof.proofs.expressions.UnionForms.{OfUnion, union_is}

-- the type at a position is a word's
word_at : (ts : List StaticType) (k : ℕ) (t : StaticType) → AreWords ts → slice_get ts k ≡ Some t → IsWord t
word_at [] k t h e = absurd cc
word_at (u ∷ ts) zero t h e = let z : u ≡ t = cc in subst (λ q. IsWord q) z h.0
word_at (u ∷ ts) (suc k) t h e = word_at ts k t h.1 e

module _ (w : World) (names : List Named) (g : Env) where
  -- a value for the member
  member_taken : (rs : List Region) (p : Part) (t : StaticType) (e : Expression) (a : Value) → p.type ≡ Some t → IsWord t
      → AllConvert g rs (p.type ∷ []) (a ∷ []) → IsTaken w names e a → Takes w names e
  member_taken rs p t e a q i c h =
      let d : AllConvert g rs (Some t ∷ []) (a ∷ []) = subst (λ (o : Option StaticType). AllConvert g rs (o ∷ []) (a ∷ [])) q c in
      (word_is w names a.type e (converts_word g.regions a.type (renamed (argument rs) t) d.0 (word_renamed (argument rs) t i)) h.value).takes

  made_is : (tag f : tree.Name) (e : Expression) (a v : Value) (u : Tag) (part : Part) → KnownUnion w tag.text u → part_in u.parts f.text ≡ Some part
      → IsTaken w names e a → union_made g tag.at (u, part) a ≡ Of v → IsTaken w names (Expression.MakeUnion tag f e) v
  made_is tag f e a v u part k q h m =
      let z : (rs : List Region) × (arguments_fit g tag.at u.regions (part.type ∷ []) (a ∷ []) ≡ Of rs) × (value tag.at (Union u.text rs) ≡ Of v) =
      after_is (arguments_fit g tag.at u.regions (part.type ∷ []) (a ∷ [])) (λ rs. value tag.at (Union u.text rs)) v m in
      let c = arguments_are g tag.at u.regions (part.type ∷ []) (a ∷ []) z.0 z.1 in
      let p : Placed (parts_of w.unions tag.text) k.types f.text part = part_placed u.parts (parts_of w.unions tag.text) k.types f.text part k.members q in
      let d : Valued v (Union u.text z.0) = value_of tag.at (Union u.text z.0) v z.2 in
      let takes : TakesWhole w names (Expression.MakeUnion tag f e) = (
        k.there,
        (
          record { number = p.position; is = p.found },
          member_taken z.0 part p.type e a p.typed (word_at k.types p.position p.type k.words p.here) c.convert h,
        ),
      ) in
      record {
        known = subst (λ y. IsKnownValue w y) (sym d.type) (subst (λ (y : List ℕ). has_tag w.unions y ≡ true) (sym k.named) k.there);
        value = subst (λ y. TakenAs w names y (Expression.MakeUnion tag f e)) (sym d.type)
            (record { takes = takes; shape = ap (λ (y : List ℕ). UnionShape y) (sym k.named) });
        run = takes;
        place = λ y. absurd (false≢true (sym (ap (λ (s : Seat). is_place s) d.seat) ∙ y));
      }

  pub union_taken : (tag f : tree.Name) (e : Expression) (o : Option Entry) (tp : Tag × Part) (a v : Value)
      → ((d : Entry) → o ≡ Some d → KnownEntry w names tag.text d) → union_tag tag f o ≡ Of tp → IsTaken w names e a → union_made g tag.at tp a ≡ Of v
      → IsTaken w names (Expression.MakeUnion tag f e) v
  union_taken tag f e o tp a v k q h m =
      let u : OfUnion o f.text tp = union_is tag f o tp q in
      let known : KnownUnion w tag.text u.tag = subst (λ (b : Bool). KnownKind w b tag.text u.tag) u.union (k (OfTag u.tag) u.is) in
      made_is tag f e a v u.tag u.part known u.found h (subst (λ z. union_made g tag.at z a ≡ Of v) (sym u.same) m)
