-- A scope in which all is known of each name stays one: where a block, a loop or a `switch` begins, in an `rnew` and an element, and after a local, an
-- array, a lexical region, an alias, a dynamic region and an opened one.
use Rattle.std.proofs.Common.{◌≡◌, ℕ, Bool, true, false, List, [], ◌∷◌, refl, ap, arith}
use Rattle.std.specs.Prelude.{◌+◌, ◌&&◌, ◌||◌, bytes_eq, if◌then◌else◌, is_some, nat_eq, not}
use Rattle.std.proofs.lemmas.Bool.{eqb-true}
use Rattle.cyc_tree.specs.Tree as tree
use Rattle.type_proof.specs.Entries.{IsObjectType}
use Rattle.type_proof.specs.Judged.{arrayed, extended, named}
use Rattle.source_typing.specs.Named.{Below, TypeBelow, NamesBelow}
use Rattle.type_proof.proofs.statements.AliasScope.{aliasing, opening, with_named}
use Rattle.type_proof.proofs.statements.Lexical.{lexical, names_with}
use Rattle.source_typing.proofs.NamedBelow.{below_up, names_up}
use Rattle.type_proof.proofs.statements.Surroundings.{type_up}
use Rattle.source_typing.specs.Declarations.{name_added}
use Rattle.source_typing.specs.Faults.{name_rule, test}
use Rattle.source_typing.specs.Making.{Goal, enclosed, inside, with_counter}
use Rattle.source_typing.specs.Regions.{Region}
use Rattle.source_typing.specs.Scope.{Enclosing, Env, InRegion, InUnique, Local, NotKnown, block_entered, in_scope, is_second, next_region, second, with_local}
use Rattle.source_typing.specs.Statements.{in_a_loop, in_a_switch}
use Rattle.source_typing.specs.Tables.{Arrayed, Counter, Entry, OfBuiltin, OfFunction, OfOther, OfTag, OfValue, Stored, Tables, Unknown, What}
use Rattle.source_typing.specs.Types.{StaticType}
use Rattle.source_typing.specs.Verdicts.{Of}
use Rattle.source_typing.specs.Written.{RegionNamed, find_region}
use Rattle.accepted_proof.specs.Good.{AllGood, IsAround, IsGood, IsGoodEntry, AreWithin, IsStructTag, NamesStructs}
use Rattle.accepted_proof.proofs.kinds.Expressions.{counter_known, inside_known}

-- ---- one more region name

pub entry_up : (n : ℕ) (e : Entry) → IsGoodEntry n e → IsGoodEntry (n + 1) e
entry_up n (OfValue (Stored t r)) h = (h.0, type_up n t h.1, below_up n r h.2)
entry_up n (OfValue (Arrayed t r)) h = (h.0, type_up n t h.1, below_up n r h.2)
entry_up n (OfValue Counter) h = tt
entry_up n (OfValue (Unknown sound)) h = absurd h
entry_up n (OfTag t) h = h
entry_up n (OfFunction s) h = h
entry_up n (OfBuiltin k) h = h
entry_up n OfOther h = absurd h

pub entries_up : (n : ℕ) (ns : Tables) → AllGood n ns → AllGood (n + 1) ns
entries_up n [] h = tt
entries_up n (x ∷ xs) h = (entry_up n x.entry h.0, entries_up n xs h.1)

pub around_up : (n : ℕ) (i : Enclosing) → IsAround n i → IsAround (n + 1) i
around_up n (InRegion r) h = below_up n r h
around_up n InUnique h = tt
around_up n NotKnown h = absurd h

-- ---- scopes

-- a block further in
within_more : (n : ℕ) (ls : List Local) → AreWithin n ls → AreWithin (n + 1) ls
within_more n [] h = tt
within_more n (l ∷ ls) h = (omega (arith, h.0), within_more n ls h.1)

-- the block's own region is the name that is next
pub good_block : (g : Env) → IsGood g → IsGood (block_entered g)
good_block g h = record {
  names = entries_up g.regions.count (in_scope g) h.names;
  regions = names_up g.regions.count g.names h.regions;
  frame = omega arith;
  enclosing = around_up g.regions.count g.enclosing h.enclosing;
  kinds = record { tables = h.kinds.tables; locals = h.kinds.locals };
  blocks = within_more g.block g.locals h.blocks;
}

pub good_loop : (g : Env) → IsGood g → IsGood (in_a_loop g)
good_loop g h = record {
  names = h.names;
  regions = h.regions;
  frame = h.frame;
  enclosing = h.enclosing;
  kinds = record { tables = h.kinds.tables; locals = h.kinds.locals };
  blocks = h.blocks;
}

pub good_switch : (g : Env) → IsGood g → IsGood (in_a_switch g)
good_switch g h = record {
  names = h.names;
  regions = h.regions;
  frame = h.frame;
  enclosing = h.enclosing;
  kinds = record { tables = h.kinds.tables; locals = h.kinds.locals };
  blocks = h.blocks;
}

-- in an `rnew` of a region that is in scope, or of the unique one
pub good_inside : (x : Goal) (g : Env) → IsAround g.regions.count (enclosed (Of x)) → IsGood g → IsGood (inside (Of x) g)
good_inside x g b h = record {
  names = h.names;
  regions = h.regions;
  frame = h.frame;
  enclosing = b;
  kinds = inside_known (IsStructTag g.tables) (Of x) g h.kinds;
  blocks = h.blocks;
}

-- in an element of an array that is made
pub good_counter : (x : tree.Name) (g : Env) → IsGood g → IsGood (with_counter x g)
good_counter x g h = record {
  names = (tt, h.names);
  regions = h.regions;
  frame = h.frame;
  enclosing = h.enclosing;
  kinds = counter_known (IsStructTag g.tables) x g h.kinds;
  blocks = (omega arith, h.blocks);
}

-- after a lexical region
name_below : (n : ℕ) (names : List RegionNamed) (x : tree.Name) (r : Region) (b : Bool) → NamesBelow n names → Below n r → NamesBelow n (name_added b x r names)
name_below n names x r true h k = h
name_below n names x r false h k = (k, h)

pub region_names : (r : tree.RegionName) (g : Env) → IsGood g → NamesBelow (g.regions.count + 1) (names_with r g)
region_names (tree.Named x) g h =
    name_below (g.regions.count + 1) g.names x (next_region g) (is_some (find_region g.names x.text)) (names_up g.regions.count g.names h.regions)
    (omega arith)
region_names (tree.Heap at) g h = names_up g.regions.count g.names h.regions
region_names (tree.Unique at) g h = names_up g.regions.count g.names h.regions

pub good_region : (r : tree.RegionName) (g : Env) → IsGood g → IsGood (lexical g (names_with r g))
good_region r g h = record {
  names = entries_up g.regions.count (in_scope g) h.names;
  regions = region_names r g h;
  frame = below_up g.regions.count g.frame h.frame;
  enclosing = around_up g.regions.count g.enclosing h.enclosing;
  kinds = record { tables = h.kinds.tables; locals = h.kinds.locals };
  blocks = h.blocks;
}

-- after a region that only the heap outlives, which is live or not
pub good_named : (live : Bool) (r : tree.RegionName) (g : Env) → IsGood g → IsGood (with_named live g (names_with r g))
good_named live r g h = record {
  names = entries_up g.regions.count (in_scope g) h.names;
  regions = region_names r g h;
  frame = below_up g.regions.count g.frame h.frame;
  enclosing = around_up g.regions.count g.enclosing h.enclosing;
  kinds = record { tables = h.kinds.tables; locals = h.kinds.locals };
  blocks = h.blocks;
}

-- after an alias
pub good_alias : (r : tree.RegionName) (g : Env) → IsGood g → IsGood (aliasing g (names_with r g))
good_alias r g h = good_named true r g h

-- where a key's region is open
pub good_open : (r : Region) (g : Env) → IsGood g → IsGood (opening g r)
good_open r g h = record {
  names = h.names;
  regions = h.regions;
  frame = h.frame;
  enclosing = h.enclosing;
  kinds = record { tables = h.kinds.tables; locals = h.kinds.locals };
  blocks = h.blocks;
}

pub good_local : (x : tree.Name) (t : StaticType) (g : Env) → IsObjectType t → TypeBelow g.regions.count t → NamesStructs (IsStructTag g.tables) t → IsGood g
    → IsGood (extended g x t)
good_local x t g w b k h = record {
  names = ((w, b, h.frame), h.names);
  regions = h.regions;
  frame = h.frame;
  enclosing = h.enclosing;
  kinds = record { tables = h.kinds.tables; locals = (k, h.kinds.locals) };
  blocks = (omega arith, h.blocks);
}

pub good_array : (x : tree.Name) (t : StaticType) (g : Env) → IsObjectType t → TypeBelow g.regions.count t → NamesStructs (IsStructTag g.tables) t → IsGood g
    → IsGood (arrayed g x t)
good_array x t g w b k h = record {
  names = ((w, b, h.frame), h.names);
  regions = h.regions;
  frame = h.frame;
  enclosing = h.enclosing;
  kinds = record { tables = h.kinds.tables; locals = (k, h.kinds.locals) };
  blocks = (omega arith, h.blocks);
}

-- a name that isn't declared twice is one more local
pub one_more : (x : tree.Name) (w : What) (g : Env) → second g x ≡ [] → with_local x w g ≡ named g x w
one_more x w g e = by (is_second g.locals g.block x.text) e
  where
    by : (b : Bool) → test (not b) name_rule x.at ≡ [] → (if b then g else named g x w) ≡ named g x w
    by true p = absurd cc
    by false p = refl

-- ---- the names of clauses

-- in a block that begins, no name was declared before
none_inside : (n : ℕ) (ls : List Local) (x : List ℕ) → AreWithin n ls → is_second ls (n + 1) x ≡ false
none_inside n [] x h = refl
none_inside n (l ∷ ls) x h = by (nat_eq l.block (n + 1)) refl (none_inside n ls x h.1)
  where
    by : (b : Bool) → nat_eq l.block (n + 1) ≡ b → is_second ls (n + 1) x ≡ false → (b && bytes_eq l.name x) || is_second ls (n + 1) x ≡ false
    by true e others = let same : l.block ≡ n + 1 = eqb-true l.block (n + 1) e in absurd (omega (arith, same, h.0))
    by false e others = others

pub first_inside : (x : tree.Name) (w : What) (g : Env) → IsGood g → with_local x w (block_entered g) ≡ named (block_entered g) x w
first_inside x w g h =
    ap (λ (b : Bool). if b then block_entered g else named (block_entered g) x w) (none_inside g.block g.locals x.text h.blocks)
