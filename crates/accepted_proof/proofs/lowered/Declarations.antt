-- Declarations without fault, where all is known of each name in scope: lowering takes them.
use Rattle.std.proofs.Common.{◌≡◌, ◌⊎◌, ℕ, Bool, true, false, inl, inr, Some, None, List, [], ◌∷◌, refl, sym, subst, ap, ◌∙◌}
use Rattle.std.specs.Prelude.{◌++◌}
use Rattle.cyc_tree.specs.Tree as tree
use Rattle.cyc_tree.specs.Tree.{Expression, Initializer}
use Rattle.cyc_tree.specs.Tree.{TypeName}
use Rattle.source_lowering.specs.Lowerable.{HasBeginning, IsOperandShape, Takes, TakesDeclaration}
use Rattle.source_lowering.specs.Lowerable.{TakesValue, TakesWhole}
use Rattle.source_lowering.specs.Lowered.{Named, static_shape}
use Rattle.source_lowering.specs.Programs.{named_here, names_behind}
use Rattle.source_meaning.specs.Shapes.{single}
use Rattle.source_meaning.specs.Shapes as shapes
use Rattle.source_meaning.specs.Shapes.{ArrayShape, Shape, settled, settled_by, written}
use Rattle.source_meaning.specs.Steps.{World}
use Rattle.type_proof.specs.Judged.{AliasOpened, DeclarationJudged, KeyDeclared, KeyOpened, LocalArray, LocalSet, LocalUnset, RegionOpened}
use Rattle.source_typing.specs.Converts.{Converts}
use Rattle.source_typing.specs.Declarations.{converted_to, declare, local_type, misses_region, set_faults, set_type, tags_in_scope, taken_from, unset_type}
use Rattle.source_typing.specs.Declarations.{with_region}
use Rattle.source_typing.specs.Expressions.{judge}
use Rattle.source_typing.specs.Extents.{size_of}
use Rattle.source_typing.specs.Regions.{Region, Regions, opened, with_name, with_scope}
use Rattle.source_typing.specs.Scope.{Env, Value, next_region, second}
use Rattle.source_typing.specs.Types.{Handle, Key, StaticType, Struct, Thin, Union, Unique, shape_of}
use Rattle.source_typing.specs.Verdicts.{after, faults_of}
use Rattle.source_typing.specs.Written.{all_found, spots_of}
use Rattle.source_typing.proofs.Inversion.{none_of_both}
use Rattle.accepted_proof.proofs.Known.{IsKnown, IsKnownValue, IsWhole, IsWord, converts_whole, converts_word, word_shape}
use Rattle.accepted_proof.proofs.lowered.Calls.{whole_taken, word_or_whole}
use Rattle.accepted_proof.proofs.lowered.Expressions.{taken_is}
use Rattle.accepted_proof.proofs.lowered.Forms.{IsKnownScope, IsTaken, TakenAs, TakenWord, word_is}
use Rattle.accepted_proof.proofs.lowered.Stands.{Exactly, StandsAs, operand_stands, known_stands, settled_stands, stands_exactly, stands_same, stands_to}
use Rattle.accepted_proof.proofs.lowered.Stands.{thin_stands, thin_word}
use Rattle.accepted_proof.proofs.lowered.Keys.{key_takes}
use Rattle.accepted_proof.proofs.lowered.Scopes.{scope_array, scope_local, scope_opened, scope_region, scope_sound, scope_tags}
use Rattle.accepted_proof.proofs.lowered.Types.{BaseThere, base_there, begins_first, object_type, once_keeps, settled_known, settled_type, written_known}
use Rattle.accepted_proof.proofs.lowered.ObjectSizes.{count_few, local_few}

module _ (w : World) where
  -- what is stored in a variable of a shape
  value_shape : (names : List Named) (s : Shape) (e : Expression) → IsOperandShape s → Takes w names e → TakesValue w names s e
  value_shape names (shapes.StructShape tag) e h k = absurd h
  value_shape names (shapes.UnionShape tag) e h k = absurd h
  value_shape names shapes.IntShape e h k = k
  value_shape names shapes.UnsignedShape e h k = k
  value_shape names shapes.CharShape e h k = k
  value_shape names shapes.VoidShape e h k = k
  value_shape names (shapes.ThinShape n o t) e h k = k
  value_shape names (shapes.FatShape t) e h k = k
  value_shape names shapes.HandleShape e h k = k
  value_shape names shapes.KeyShape e h k = k
  value_shape names (ArrayShape n t) e h k = k

  whole_value : (names : List Named) (t : StaticType) (e : Expression) → IsWhole t → TakesWhole w names e → TakesValue w names (shape_of t) e
  whole_value names (Struct tag rs) e h k = k
  whole_value names (Union tag rs) e h k = k
  whole_value names _ e h k = absurd h

  whole_exactly : (s : Shape) (t : StaticType) → IsWhole t → StandsAs s (shape_of t) → s ≡ shape_of t
  whole_exactly s (Struct tag rs) h k = stands_exactly s (shape_of (Struct tag rs)) k tt
  whole_exactly s (Union tag rs) h k = stands_exactly s (shape_of (Union tag rs)) k tt
  whole_exactly s _ h k = absurd h

  value_takes : (names : List Named) (g : Env) (e : Expression) (v : Value) (t : StaticType) (s : Shape) → IsKnown w (shape_of t) → StandsAs s (shape_of t)
      → Converts g.regions v.type t → IsTaken w names e v → TakesValue w names s e
  value_takes names g e v t s known shape c k = by (word_or_whole w names t known)
    where
      by : IsWord t ⊎ IsWhole t → TakesValue w names s e
      by (inl i) =
          value_shape names s e (operand_stands s (shape_of t) shape (word_shape t i))
          (word_is w names v.type e (converts_word g.regions v.type t c i) k.value).takes
      by (inr i) =
          let whole : TakesWhole w names e =
          whole_taken w names t e i (subst (λ (z : StaticType). TakenAs w names z e) (converts_whole g.regions v.type t c i) k.value) in
          subst (λ (z : Shape). TakesValue w names z e) (sym (whole_exactly s t i shape)) (whole_value names t e i whole)

  -- what converts to an object has its type's shape
  converted_stands : (names : List Named) (g : Env) (e : Expression) (v : Value) (t : StaticType) → IsKnown w (shape_of t) → Converts g.regions v.type t
      → IsTaken w names e v → StandsAs (static_shape w names e) (shape_of v.type)
  converted_stands names g e v t known c k = by (word_or_whole w names t known)
    where
      whole : (u : StaticType) → IsWhole u → TakenAs w names u e → StandsAs (static_shape w names e) (shape_of u)
      whole (Struct tag rs) h k = stands_same (static_shape w names e) (shape_of (Struct tag rs)) k.shape
      whole (Union tag rs) h k = stands_same (static_shape w names e) (shape_of (Union tag rs)) k.shape
      whole _ h k = absurd h

      by : IsWord t ⊎ IsWhole t → StandsAs (static_shape w names e) (shape_of v.type)
      by (inl i) = (word_is w names v.type e (converts_word g.regions v.type t c i) k.value).shape
      by (inr i) = whole v.type (subst (λ (z : StaticType). IsWhole z) (sym (converts_whole g.regions v.type t c i)) i) k.value

  -- a declaration that is taken, and what is known after it
  pub record DeclarationTaken (names : List Named) (index : ℕ) (g : Env) (d : tree.Declaration) : Type 0 where
    pub takes : TakesDeclaration w names d
    pub scope : IsKnownScope w (names_behind w names index d) (declare g d).scope
    pub result : (declare g d).scope.result ≡ g.result

  unset_takes : (names : List Named) (index : ℕ) (g : Env) (u : TypeName) (x : tree.Name) → IsKnownScope w names g → LocalUnset g u x
      → (declare g (tree.Local u x Initializer.Unset)).faults ≡ [] → DeclarationTaken names index g (tree.Local u x Initializer.Unset)
  unset_takes names index g u x scope j p =
      let f = none_of_both (faults_of (unset_type g u None)) (second g x) p in
      let there : BaseThere w u.base =
      base_there w (tags_in_scope g) u (all_found g.names (spots_of (tags_in_scope g) u)) (λ v. after v (local_type g u.at None false None))
      (scope_tags w names g scope) (scope_sound w names g scope) (once_keeps (local_type g u.at None false None)) f.0 in
      record {
        takes = (
          object_type w u j.type there j.object j.shape,
          subst (λ (s : Shape). HasBeginning s) (sym j.shape) (begins_first g.tables j.type j.object j.begins),
        );
        scope = subst (λ (s : Env). IsKnownScope w (named_here x.text (settled (written u)) index ∷ names) s) (sym j.scope)
            (scope_local w names g x j.type (settled (written u)) index (stands_same (settled (written u)) (shape_of j.type) j.shape)
            (written_known w u j.type there j.object j.shape) scope);
        result = ap (λ (s : Env). s.result) j.scope;
      }

  array_takes : (names : List Named) (index : ℕ) (g : Env) (u : TypeName) (x : tree.Name) (n : ℕ) → IsKnownScope w names g → LocalArray g u x n
      → (declare g (tree.Local u x (Initializer.Elements n))).faults ≡ []
      → DeclarationTaken names index g (tree.Local u x (Initializer.Elements n))
  array_takes names index g u x n scope j p =
      let f = none_of_both (faults_of (unset_type g u (Some n))) (second g x) p in
      let there : BaseThere w u.base =
      base_there w (tags_in_scope g) u (all_found g.names (spots_of (tags_in_scope g) u)) (λ v. after v (local_type g u.at (Some n) false None))
      (scope_tags w names g scope) (scope_sound w names g scope) (once_keeps (local_type g u.at (Some n) false None)) f.0 in
      let known : IsKnown w (shape_of j.type) = written_known w u j.type there j.object j.shape in
      record {
        takes = (
          object_type w u j.type there j.object j.shape,
          (
            count_few n (size_of g.tables j.type) (scope.sizes j.type known) (local_few g u x n j.type f.1 j.scope),
            subst (λ (s : Shape). HasBeginning s) (sym j.shape) (begins_first g.tables j.type j.object j.begins),
          ),
        );
        scope = subst (λ (s : Env). IsKnownScope w (named_here x.text (ArrayShape n (settled (written u))) index ∷ names) s) (sym j.scope)
            (scope_array w names g x j.type (settled (written u)) n index j.shape known scope);
        result = ap (λ (s : Env). s.result) j.scope;
      }

  set_takes : (names : List Named) (index : ℕ) (g : Env) (u : TypeName) (x : tree.Name) (e : Expression) → IsKnownScope w names g
      → LocalSet g u x e
      → (declare g (tree.Local u x (Initializer.Value e))).faults ≡ []
      → DeclarationTaken names index g (tree.Local u x (Initializer.Value e))
  set_takes names index g u x e scope j p =
      let v : Value = j.fitting.accepted.value in
      let a = none_of_both (set_faults g (judge g e) (set_type g u (judge g e))) (second g x) p in
      let b = none_of_both (faults_of (set_type g u (judge g e)) ++ faults_of (judge g e)) (converted_to g (judge g e) (set_type g u (judge g e))) a.0 in
      let c = none_of_both (faults_of (set_type g u (judge g e))) (faults_of (judge g e)) b.0 in
      let there : BaseThere w u.base =
      base_there w (tags_in_scope g) u (all_found g.names (spots_of (tags_in_scope g) u)) (λ z. after z (taken_from g u.at (misses_region g u) (judge g e)))
      (scope_tags w names g scope) (scope_sound w names g scope) (once_keeps (taken_from g u.at (misses_region g u) (judge g e))) c.0 in
      let k : IsTaken w names e v = taken_is w names g scope e v j.fitting.accepted.operands j.fitting.accepted.judged in
      let known : IsKnown w (shape_of j.type) = settled_known w u (shape_of v.type) j.type there j.object j.shape in
      let own : Shape = settled_by (written u) (static_shape w names e) in
      let shape : StandsAs own (shape_of j.type) =
      stands_to own (settled_by (written u) (shape_of v.type)) (shape_of j.type)
      (settled_stands (written u) (static_shape w names e) (shape_of v.type) (converted_stands names g e v j.type known j.fitting.converts k)) j.shape in
      record {
        takes = (
          settled_type w u (shape_of v.type) j.type known j.shape,
          value_takes names g e v j.type own known shape j.fitting.converts k,
        );
        scope = subst (λ (s : Env). IsKnownScope w (named_here x.text own index ∷ names) s) (sym j.scope)
            (scope_local w names g x j.type own index shape known scope);
        result = ap (λ (s : Env). s.result) j.scope;
      }

  -- where a region begins the function gives what it gave
  result_kept : (r : tree.RegionName) (f : Regions → Regions) (g : Env) → (with_region r f g).result ≡ g.result
  result_kept (tree.Named n) f g = refl
  result_kept (tree.Heap at) f g = refl
  result_kept (tree.Unique at) f g = refl

  -- a lexical region, with its handle
  region_takes : (names : List Named) (index : ℕ) (g : Env) (at : ℕ) (r : tree.RegionName) (x : tree.Name) → IsKnownScope w names g → RegionOpened g at r x
      → DeclarationTaken names index g (tree.Region at r x)
  region_takes names index g at r x scope j = record {
    takes = tt;
    scope = subst (λ (s : Env). IsKnownScope w (named_here x.text shapes.HandleShape index ∷ names) s) (sym j)
        (scope_local w names (with_region r with_scope g) x (Handle (next_region g)) shapes.HandleShape index Exactly tt
        (scope_region w names r with_scope g scope));
    result = ap (λ (s : Env). s.result) j ∙ result_kept r with_scope g;
  }

  -- a dynamic region, with its key
  new_key_takes : (names : List Named) (index : ℕ) (g : Env) (at : ℕ) (r : tree.RegionName) (x : tree.Name) → IsKnownScope w names g → KeyDeclared g at r x
      → DeclarationTaken names index g (tree.NewKey at r x)
  new_key_takes names index g at r x scope j = record {
    takes = tt;
    scope = subst (λ (s : Env). IsKnownScope w (named_here x.text shapes.KeyShape index ∷ names) s) (sym j)
        (scope_local w names (with_region r (with_name false) g) x (Key (next_region g)) shapes.KeyShape index Exactly tt
        (scope_region w names r (with_name false) g scope));
    result = ap (λ (s : Env). s.result) j ∙ result_kept r (with_name false) g;
  }

  -- the handle of a region that a key opens
  open_takes : (names : List Named) (index : ℕ) (g : Env) (at : ℕ) (r : tree.RegionName) (x y : tree.Name) → IsKnownScope w names g
      → (j : KeyOpened g at r x y) → IsTaken w names (Expression.Variable y) j.operand.value → DeclarationTaken names index g (tree.Open at r x y)
  open_takes names index g at r x y scope j k =
      let q : Region = j.operand.region in
      record {
        takes = key_takes w names y j.operand.value q j.operand.is k;
        scope = subst (λ (s : Env). IsKnownScope w (named_here x.text shapes.HandleShape index ∷ names) s) (sym j.scope)
            (scope_local w names (record g { regions = opened q g.regions }) x (Handle q) shapes.HandleShape index Exactly tt
            (scope_opened w names q g scope));
        result = ap (λ (s : Env). s.result) j.scope;
      }

  -- an alias of a unique pointer
  alias_takes : (names : List Named) (index : ℕ) (g : Env) (at : ℕ) (r : tree.RegionName) (u : TypeName) (x y : tree.Name) → IsKnownScope w names g
      → (j : AliasOpened g at r u x y) → IsTaken w names (Expression.Variable y) j.operand.value → DeclarationTaken names index g (tree.Alias at r u x y)
  alias_takes names index g at r u x y scope j k =
      let n : Bool = j.operand.nullable in
      let to : StaticType = j.operand.to in
      let t : StaticType = Thin (single n) (next_region g) to in
      let known : IsKnown w (shape_of to) = subst (λ (z : StaticType). IsKnownValue w z) j.operand.is k.known in
      let word : TakenWord w names (Expression.Variable y) (Unique n to) =
      subst (λ (z : StaticType). TakenAs w names z (Expression.Variable y)) j.operand.is k.value in
      let from : Shape = static_shape w names (Expression.Variable y) in
      let own : Shape = settled_by (written u) from in
      let shape : StandsAs own (shape_of t) =
      stands_to own (settled_by (written u) (shape_of (Unique n to))) (shape_of t)
      (settled_stands (written u) from (shape_of (Unique n to)) word.shape) j.shape in
      record {
        takes = (
          settled_type w u (shape_of (Unique n to)) t known j.shape,
          (
            thin_stands from (shape_of (Unique n to)) word.shape tt,
            thin_word w own (thin_stands own (shape_of t) shape tt) (known_stands w own (shape_of t) shape known),
          ),
        );
        scope = subst (λ (s : Env). IsKnownScope w (named_here x.text own index ∷ names) s) (sym j.scope)
            (scope_local w names (with_region r (with_name true) g) x t own index shape known (scope_region w names r (with_name true) g scope));
        result = ap (λ (s : Env). s.result) j.scope ∙ result_kept r (with_name true) g;
      }

  pub declaration_takes : (d : tree.Declaration) (names : List Named) (index : ℕ) (g : Env) → IsKnownScope w names g → DeclarationJudged g d
      → (declare g d).faults ≡ [] → DeclarationTaken names index g d
  declaration_takes (tree.Region at r x) names index g scope j p = region_takes names index g at r x scope j
  declaration_takes (tree.Open at r x y) names index g scope j p =
      open_takes names index g at r x y scope j
      (taken_is w names g scope (Expression.Variable y) j.operand.value tt j.operand.judged)
  declaration_takes (tree.Alias at r u x y) names index g scope j p =
      alias_takes names index g at r u x y scope j
      (taken_is w names g scope (Expression.Variable y) j.operand.value tt j.operand.judged)
  declaration_takes (tree.NewKey at r x) names index g scope j p = new_key_takes names index g at r x scope j
  declaration_takes (tree.Local u x Initializer.Unset) names index g scope j p = unset_takes names index g u x scope j p
  declaration_takes (tree.Local u x (Initializer.Elements n)) names index g scope j p = array_takes names index g u x n scope j p
  declaration_takes (tree.Local u x (Initializer.Value e)) names index g scope j p = set_takes names index g u x e scope j p
