-- A scope in which all is known of each name stays one: after a local, where a block, a loop or an element begins, where a region begins or is opened, and
-- with a function's parameters.
use Rattle.std.proofs.Common.{◌≡◌, ℕ, suc, Bool, true, false, Option, Some, None, List, [], ◌∷◌, refl, sym, subst, ap, ◌∙◌}
use Rattle.std.specs.Prelude.{bytes_eq, if◌then◌else◌, map}
use Rattle.cyc_tree.specs.Tree as tree
use Rattle.source_lowering.specs.Lowered.{Named, element_names, local_named, named_shape, shape_by}
use Rattle.source_lowering.specs.Naming.{Home, InBlock}
use Rattle.source_lowering.specs.Programs.{named_here, one_out, outward, parameter_names}
use Rattle.source_meaning.specs.Places.{bound_to}
use Rattle.source_meaning.specs.Shapes.{ArrayShape, Part, Shape, UnsignedShape, part_shapes}
use Rattle.source_meaning.specs.Steps.{Entity, World}
use Rattle.type_proof.specs.Judged.{arrayed, extended, named}
use Rattle.type_proof.specs.Programs.{name_alone, with_all}
use Rattle.source_typing.specs.Declarations.{tags_in_scope, with_region}
use Rattle.source_typing.specs.Making.{Goal, inside, with_counter}
use Rattle.source_typing.specs.Regions.{Region, Regions, opened}
use Rattle.source_typing.specs.Scope.{Env, block_entered, in_scope, meant}
use Rattle.source_typing.specs.Statements.{in_a_loop, in_a_switch}
use Rattle.source_typing.specs.Tables.{Arrayed, Counter, Entry, OfBuiltin, OfFunction, OfOther, OfTag, OfValue, Stored, Tag, Unknown, What}
use Rattle.source_typing.specs.Types.{StaticType, shape_of}
use Rattle.source_typing.specs.Verdicts.{Verdict}
use Rattle.accepted_proof.proofs.good.Types.{IsKnownEntry, KnowsTags, MeansKnown, tagged_known, tagged_same}
use Rattle.accepted_proof.proofs.Known.{IsKnown}
use Rattle.accepted_proof.proofs.lowered.Forms.{AreKnown, IsKnownScope, KnownEntry, KnownKind}
use Rattle.accepted_proof.proofs.lowered.Types.{AreSound, TagThere, TagsThere, known_sound}
use Rattle.accepted_proof.proofs.lowered.Stands.{StandsAs, stands_from, stands_same}

-- a name of a shape, wherever it is
abbrev named_at : List ℕ → Shape → Home → Named
named_at x s home = record { name = x; shape = s; home = home }

module _ (w : World) where
  -- a name keeps what is known of it while it has its shape
  entry_kept : (names others : List Named) (x : List ℕ) (e : Entry) → named_shape w others x ≡ named_shape w names x → KnownEntry w names x e
      → KnownEntry w others x e
  entry_kept names others x (OfValue (Stored t r)) q h =
      (stands_from (named_shape w others x) (named_shape w names x) (shape_of t) q h.0, h.1)
  entry_kept names others x (OfValue (Arrayed t r)) q h = (h.0, q ∙ h.1, h.2)
  entry_kept names others x (OfValue Counter) q h = q ∙ h
  entry_kept names others x (OfValue (Unknown sound)) q h = h
  entry_kept names others x (OfTag t) q h = h
  entry_kept names others x (OfFunction s) q h = h
  entry_kept names others x (OfBuiltin n) q h = h
  entry_kept names others x OfOther q h = h

  -- what is known of a tag, of either kind
  kind_there : (b : Bool) (x : List ℕ) (t : Tag) → KnownKind w b x t → TagThere w b x
  kind_there false x t k = k.there
  kind_there true x t k = k.there

  kind_sound : (b : Bool) (x : List ℕ) (t : Tag) → KnownKind w b x t → t.sound ≡ true
  kind_sound false x t k = k.sound
  kind_sound true x t k = k.sound

  -- no name in scope is of a declaration with a fault
  entry_clean : (names : List Named) (x : List ℕ) (e : Entry) → KnownEntry w names x e → IsKnownEntry e
  entry_clean names x (OfValue (Stored t r)) k = tt
  entry_clean names x (OfValue (Arrayed t r)) k = tt
  entry_clean names x (OfValue Counter) k = tt
  entry_clean names x (OfValue (Unknown sound)) k = k
  entry_clean names x (OfTag t) k = kind_sound t.is_union x t k
  entry_clean names x (OfFunction s) k = k.sound
  entry_clean names x (OfBuiltin n) k = tt
  entry_clean names x OfOther k = tt

  scope_known : (names : List Named) (g : Env) → IsKnownScope w names g → KnowsTags (in_scope g)
  scope_known names g scope x = by (meant g x) (scope.entries x)
    where
      by : (o : Option Entry) → ((e : Entry) → o ≡ Some e → KnownEntry w names x e) → MeansKnown o
      by None k = tt
      by (Some e) k = entry_clean names x e (k e refl)

  -- each tag in scope is the program's
  pub scope_tags : (names : List Named) (g : Env) → IsKnownScope w names g → TagsThere w (tags_in_scope g)
  scope_tags names g scope x t e =
      kind_there t.is_union x t (scope.entries x (OfTag t) (sym (tagged_same (in_scope g) (scope_known names g scope) x) ∙ e))

  -- and without fault
  pub scope_sound : (names : List Named) (g : Env) → IsKnownScope w names g → AreSound (tags_in_scope g)
  scope_sound names g scope = known_sound (tags_in_scope g) (tagged_known (in_scope g) (scope_known names g scope))

  -- ---- one more local

  -- a name of a shape that is known, whatever else is in scope
  scope_named : (names : List Named) (g : Env) (x : tree.Name) (what : What) (s : Shape) (home : Home)
      → ((others : List Named) (y : List ℕ) → named_shape w others y ≡ s → KnownEntry w others y (OfValue what)) → IsKnownScope w names g
      → IsKnownScope w (named_at x.text s home ∷ names) (named g x what)
  scope_named names g x what s home k scope = record {
    entries = λ y e p. by y e (bytes_eq x.text y) refl p;
    members = scope.members;
    choices = scope.choices;
    sizes = scope.sizes;
  }
    where
      by : (y : List ℕ) (e : Entry) (b : Bool) → bytes_eq x.text y ≡ b → (if b then Some (OfValue what) else meant g y) ≡ Some e
          → KnownEntry w (named_at x.text s home ∷ names) y e
      by y e true r p =
          let z : OfValue what ≡ e = cc in
          subst (λ (d : Entry). KnownEntry w (named_at x.text s home ∷ names) y d) z
          (k (named_at x.text s home ∷ names) y
          (ap (λ (b : Bool). shape_by (if b then Some (named_at x.text s home) else local_named names y) (bound_to w.globals y)) r))
      by y e false r p =
          entry_kept names (named_at x.text s home ∷ names) y e
          (ap (λ (b : Bool). shape_by (if b then Some (named_at x.text s home) else local_named names y) (bound_to w.globals y)) r)
          (scope.entries y e p)

  pub scope_local : (names : List Named) (g : Env) (x : tree.Name) (t : StaticType) (s : Shape) (index : ℕ) → StandsAs s (shape_of t)
      → IsKnown w (shape_of t) → IsKnownScope w names g → IsKnownScope w (named_here x.text s index ∷ names) (extended g x t)
  scope_local names g x t s index q k scope =
      scope_named names g x (Stored t g.frame) s (InBlock 0 index) (λ others y z. (stands_from (named_shape w others y) s (shape_of t) z q, k)) scope

  pub scope_array : (names : List Named) (g : Env) (x : tree.Name) (t : StaticType) (s : Shape) (count index : ℕ) → s ≡ shape_of t
      → IsKnown w (shape_of t) → IsKnownScope w names g
      → IsKnownScope w (named_here x.text (ArrayShape count s) index ∷ names) (arrayed g x t)
  scope_array names g x t s count index q k scope =
      scope_named names g x (Arrayed t g.frame) (ArrayShape count s) (InBlock 0 index)
      (λ others y z. (count, z ∙ ap (λ (u : Shape). ArrayShape count u) q, k)) scope

  -- ---- blocks and loops

  outward_shape : (names : List Named) (x : List ℕ) (global : Option Entity)
      → shape_by (local_named (outward names) x) global ≡ shape_by (local_named names x) global
  outward_shape [] x global = refl
  outward_shape (l ∷ ls) x global = by (bytes_eq l.name x) (outward_shape ls x global)
    where
      by : (b : Bool) → shape_by (local_named (outward ls) x) global ≡ shape_by (local_named ls x) global
          → shape_by (if b then Some (one_out l) else local_named (outward ls) x) global ≡ shape_by (if b then Some l else local_named ls x) global
      by true others = refl
      by false others = others

  scope_outward : (names : List Named) (g : Env) → IsKnownScope w names g → IsKnownScope w (outward names) g
  scope_outward names g scope = record {
    entries = λ x e p. entry_kept names (outward names) x e (outward_shape names x (bound_to w.globals x)) (scope.entries x e p);
    members = scope.members;
    choices = scope.choices;
    sizes = scope.sizes;
  }

  pub scope_block : (names : List Named) (g : Env) → IsKnownScope w names g → IsKnownScope w (outward names) (block_entered g)
  scope_block names g scope =
      let out = scope_outward names g scope in
      record { entries = out.entries; members = out.members; choices = out.choices; sizes = out.sizes }

  -- the index of an array's elements, in a block of its own
  pub scope_counter : (names : List Named) (g : Env) (x : tree.Name) → IsKnownScope w names g → IsKnownScope w (element_names x.text names) (with_counter x g)
  scope_counter names g x scope =
      scope_named (outward names) g x Counter UnsignedShape (InBlock 0 0) (λ others y z. z) (scope_outward names g scope)

  pub scope_switch : (names : List Named) (g : Env) → IsKnownScope w names g → IsKnownScope w names (in_a_switch g)
  scope_switch names g scope = record { entries = scope.entries; members = scope.members; choices = scope.choices; sizes = scope.sizes }

  pub scope_loop : (names : List Named) (g : Env) → IsKnownScope w names g → IsKnownScope w names (in_a_loop g)
  scope_loop names g scope = record { entries = scope.entries; members = scope.members; choices = scope.choices; sizes = scope.sizes }

  -- where a region begins, where a key opens one, and within an operand of `rnew`
  pub scope_region : (names : List Named) (r : tree.RegionName) (f : Regions → Regions) (g : Env) → IsKnownScope w names g
      → IsKnownScope w names (with_region r f g)
  scope_region names (tree.Named n) f g scope = record { entries = scope.entries; members = scope.members; choices = scope.choices; sizes = scope.sizes }
  scope_region names (tree.Heap at) f g scope = record { entries = scope.entries; members = scope.members; choices = scope.choices; sizes = scope.sizes }
  scope_region names (tree.Unique at) f g scope = record { entries = scope.entries; members = scope.members; choices = scope.choices; sizes = scope.sizes }

  pub scope_opened : (names : List Named) (r : Region) (g : Env) → IsKnownScope w names g → IsKnownScope w names (record g { regions = opened r g.regions })
  scope_opened names r g scope = record { entries = scope.entries; members = scope.members; choices = scope.choices; sizes = scope.sizes }

  pub scope_inside : (names : List Named) (goal : Verdict Goal) (g : Env) → IsKnownScope w names g → IsKnownScope w names (inside goal g)
  scope_inside names goal g scope = record { entries = scope.entries; members = scope.members; choices = scope.choices; sizes = scope.sizes }

  -- ---- parameters

  pub scope_all : (ps : List Part) (ts : List StaticType) (index : ℕ) (names : List Named) (g : Env) → part_shapes ps ≡ map (λ (t : StaticType). shape_of t) ts
      → AreKnown w ts → IsKnownScope w names g → IsKnownScope w (parameter_names ps index names) (with_all ps ts g)
  scope_all [] [] index names g q k scope = scope
  scope_all (p ∷ ps) (t ∷ ts) index names g q k scope =
      let a : p.shape ≡ shape_of t = cc in
      let b : part_shapes ps ≡ map (λ (t : StaticType). shape_of t) ts = cc in
      scope_all ps ts (suc index) (named_here p.name p.shape index ∷ names) (extended g (name_alone p.name) t) b k.1
      (scope_local names g (name_alone p.name) t p.shape index (stands_same p.shape (shape_of t) a) k.0 scope)
  scope_all [] (t ∷ ts) index names g q k scope = absurd cc
  scope_all (p ∷ ps) [] index names g q k scope = absurd cc
