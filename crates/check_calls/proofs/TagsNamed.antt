-- Names that are structs, where they are called, and names that are unions, where a value is made of them.
use Rattle.std.specs.Prelude.{if◌then◌else◌, bytes_eq}
use Rattle.std.proofs.Common.{◌≡◌, ℕ, Bool, true, false, Option, Some, List, [], ◌∷◌, refl, sym, ◌∙◌, ap}
use Rattle.cyc_tree.specs.Tree.{Name}
use Rattle.cyc_types.specs.Sameness.{HasTags}
use Rattle.cyc_types.specs.Tables.{tables_of}
use Rattle.cyc_types.specs.declared.tables.Tables as code_tables
use Rattle.check_scopes.specs.Means.{Means}
use Rattle.check_scopes.specs.Means as means
use Rattle.check_scopes.specs.declared.meaning.Meaning.{Meaning}
use Rattle.check_scopes.specs.declared.meaning.Meaning.TheVariants as meaning
use Rattle.source_typing.specs.Calls.{ToStruct, if_union, target, target_of_tag, union_tag}
use Rattle.source_typing.specs.Scope.{Env, Local, meant, with_locals}
use Rattle.source_typing.specs.Tables.{Entry, OfTag, OfValue, Tables, Tag, as_tag, find, tag_in}
use Rattle.source_typing.specs.Verdicts.{Of}
use Rattle.source_typing.specs.Written.{if_sound}
use Rattle.check_faults.specs.Verdicts.{shortened}
use Rattle.check_calls.specs.Targets.{struct_in}
use Rattle.check_calls.specs.Unions.{union_in}

-- locals are no tags
behind_locals : (ls : List Local) (g : Tables) (x : List ℕ) (t : Tag) → find (with_locals ls g) x ≡ Some (OfTag t) → find g x ≡ Some (OfTag t)
behind_locals [] g x t h = h
behind_locals (l ∷ ls) g x t h = by (bytes_eq l.name x) (behind_locals ls g x t) h
  where
    by : (b : Bool) → (find (with_locals ls g) x ≡ Some (OfTag t) → find g x ≡ Some (OfTag t))
        → (if b then Some (OfValue l.what) else find (with_locals ls g) x) ≡ Some (OfTag t) → find g x ≡ Some (OfTag t)
    by true others h = absurd cc
    by false others h = others h

module _ (tables : code_tables.Tables) (g : Env) (has : HasTags tables g.tables) (x : List ℕ) where
  tag_there : (t : Tag) → meant g x ≡ Some (OfTag t) → tag_in (tables_of tables) x ≡ Some t
  tag_there t e = sym (has.tags x) ∙ ap as_tag (behind_locals g.locals g.tables x t e)

  -- a struct's name calls the struct that is known by it
  pub struct_found : (at : ℕ) (e : Option Entry) (m : Option Meaning) (n : ℕ) → Means e m → meant g x ≡ e → m ≡ Some (meaning.Tag false n)
      → shortened (struct_in (tag_in (tables_of tables) x)) ≡ shortened (target at e)
  struct_found at e m n means.Means.NoName i k = absurd cc
  struct_found at e m n (means.Means.Variable t r) i k = absurd cc
  struct_found at e m n (means.Means.Array t r) i k = absurd cc
  struct_found at e m n means.Means.CounterValue i k = absurd cc
  struct_found at e m n (means.Means.Function f) i k = absurd cc
  struct_found at e m n (means.Means.Builtin c) i k = absurd cc
  struct_found at e m n means.Means.UntypedValue i k = absurd cc
  struct_found at e m n means.Means.UnknownValue i k = absurd cc
  struct_found at e m n (means.Means.UnsoundFunction f u) i k = absurd cc
  struct_found at e m n (means.Means.UnsoundTag t u) i k = absurd cc
  struct_found at e m n (means.Means.SoundTag t u) i k =
      let is_struct : t.is_union ≡ false = cc in
      ap (λ o. shortened (struct_in o)) (tag_there t i)
      ∙ ap (λ b. shortened (if_sound b (Of (ToStruct t)))) (sym u)
      ∙ ap (λ b. shortened (target_of_tag b t at)) (sym is_struct)

  -- a union's name makes the union that is known by it
  pub union_found : (y f : Name) (e : Option Entry) (m : Option Meaning) (n : ℕ) → Means e m → meant g x ≡ e → m ≡ Some (meaning.Tag true n)
      → shortened (union_in f (tag_in (tables_of tables) x)) ≡ shortened (union_tag y f e)
  union_found y f e m n means.Means.NoName i k = absurd cc
  union_found y f e m n (means.Means.Variable t r) i k = absurd cc
  union_found y f e m n (means.Means.Array t r) i k = absurd cc
  union_found y f e m n means.Means.CounterValue i k = absurd cc
  union_found y f e m n (means.Means.Function s) i k = absurd cc
  union_found y f e m n (means.Means.Builtin c) i k = absurd cc
  union_found y f e m n means.Means.UntypedValue i k = absurd cc
  union_found y f e m n means.Means.UnknownValue i k = absurd cc
  union_found y f e m n (means.Means.UnsoundFunction s u) i k = absurd cc
  union_found y f e m n (means.Means.UnsoundTag t u) i k = absurd cc
  union_found y f e m n (means.Means.SoundTag t u) i k =
      let is_union : t.is_union ≡ true = cc in
      ap (λ o. shortened (union_in f o)) (tag_there t i)
      ∙ ap (λ b. shortened (if_union b y f t)) (sym is_union)
      ∙ ap (λ b. shortened (if_sound b (if_union t.is_union y f t))) (sym u)
