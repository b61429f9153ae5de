-- The code of variables: a word is read and written without its address, and `&` takes it.
use Rattle.std.proofs.Common.{◌≡◌, ℕ, ◌+◌, List, [], Bool, true, false, Option, Some, None, refl, sym, ◌∙◌}
use Rattle.std.proofs.Math.Bool.{and-false}
use Rattle.std.specs.Prelude.{◌||◌, ◌&&◌, not, nat_eq, bytes_eq}
use Rattle.cyc_tree.specs.Tree.{Expression}
use Rattle.source_meaning.specs.Shapes.{
  Shape,
  IntShape,
  UnsignedShape,
  CharShape,
  VoidShape,
  ThinShape,
  FatShape,
  HandleShape,
  KeyShape,
  StructShape,
  UnionShape,
}
use Rattle.source_meaning.specs.Shapes.{ArrayShape, Layout}
use Rattle.source_meaning.specs.Steps.{Entity, Variable, World}
use Rattle.source_meaning.specs.Places.{bound_to}
use Rattle.core_meaning.specs.Core.{Statement}
use Rattle.source_lowering.specs.Members.{words_in}
use Rattle.source_lowering.specs.Lowered.{
  Home,
  InBlock,
  Named,
  address_by,
  get_by,
  get_code,
  get_home,
  get_local,
  home_address,
  local_named,
  member_shape,
  put_by,
  put_home,
  shape_by,
  static_shape,
  stored_code,
  valued,
}
use Rattle.source_lowering.specs.Lowerable.{IsObject, IsUnionShape, IsWholeShape}
use Rattle.home_proof.specs.Names.{is_name, is_word, pointed}
use Rattle.home_proof.proofs.Codes.{addresses, flags_of}
use Rattle.home_proof.proofs.Leads.{Does, Leads, at_home, is_word_at, leads}
use Rattle.home_proof.proofs.Pieces.{global_plain, stores_plain}

-- ---- reading and writing

-- what isn't a word is elsewhere
pub elsewhere : (there : Bool) → (not there || false) ≡ true → (there || false) ≡ false
elsewhere true h = cc
elsewhere false h = refl

local_flags : (s : Shape) (d o i : ℕ) → flags_of (get_local s d o i) ≡ []
local_flags (ArrayShape count of) d o i = refl
local_flags (FatShape to) d o i = refl
local_flags _ d o i = refl

local_read : (s : Shape) (d o i out index : ℕ) → (not (nat_eq o out && nat_eq i index) || is_word s) ≡ true → addresses out index (get_local s d o i) ≡ false
local_read (ArrayShape count of) d o i out index h = elsewhere (nat_eq o out && nat_eq i index) h
local_read (FatShape to) d o i out index h = elsewhere (nat_eq o out && nat_eq i index) h
local_read _ d o i out index h = refl

pub stored_flags : (s : Shape) (address d o i : ℕ) → flags_of (stored_code s address d o i) ≡ []
stored_flags (FatShape to) address d o i = refl
stored_flags _ address d o i = refl

pub stored_free : (s : Shape) (address d o i out index : ℕ) → (not (nat_eq o out && nat_eq i index) || is_word s) ≡ true
    → addresses out index (stored_code s address d o i) ≡ false
stored_free (FatShape to) address d o i out index h = elsewhere (nat_eq o out && nat_eq i index) h
stored_free _ address d o i out index h = refl

read_flags : (l : Option Named) (e : Option Entity) (d : ℕ) → flags_of (get_by l e d) ≡ []
read_flags (Some l) e d = by l.home
  where
    by : (h : Home) → flags_of (get_home l.shape h d) ≡ []
    by (InBlock o i) = local_flags l.shape d o i
read_flags None (Some (Variable s at)) d = (global_plain s d at.object).flags
read_flags None None d = refl

read_free : (l : Option Named) (e : Option Entity) (d out index : ℕ) → is_word_at out index l ≡ true → addresses out index (get_by l e d) ≡ false
read_free (Some l) e d out index h = by l.home h
  where
    by : (home : Home) → (not (at_home home out index) || is_word l.shape) ≡ true → addresses out index (get_home l.shape home d) ≡ false
    by (InBlock o i) h = local_read l.shape d o i out index h
read_free None (Some (Variable s at)) d out index h = (global_plain s d at.object).free out index
read_free None None d out index h = refl

pub read_does : (w : World) (names : List Named) (name : List ℕ) (d : ℕ) → Does names (get_code w names name d) (λ n. false) []
read_does w names name d = record {
  flagged = read_flags (local_named names name) (bound_to w.globals name) d;
  pointed = λ out index n visible h. read_free (local_named names name) (bound_to w.globals name) d out index (h.word name) ∙ sym (and-false visible);
}

put_flags : (l : Option Named) (e : Option Entity) (d : ℕ) → flags_of (put_by l e d) ≡ []
put_flags (Some l) e d = by l.home
  where
    by : (h : Home) → flags_of (put_home l.shape h d) ≡ []
    by (InBlock o i) = stored_flags l.shape (d + words_in l.shape) d o i
put_flags None (Some (Variable s at)) d = (stores_plain s (d + words_in s) d 0 0).flags
put_flags None None d = refl

put_free : (l : Option Named) (e : Option Entity) (d out index : ℕ) → is_word_at out index l ≡ true → addresses out index (put_by l e d) ≡ false
put_free (Some l) e d out index h = by l.home h
  where
    by : (home : Home) → (not (at_home home out index) || is_word l.shape) ≡ true → addresses out index (put_home l.shape home d) ≡ false
    by (InBlock o i) h = stored_free l.shape (d + words_in l.shape) d o i out index h
put_free None (Some (Variable s at)) d out index h = (stores_plain s (d + words_in s) d 0 0).free out index
put_free None None d out index h = refl

pub put_does : (w : World) (names : List Named) (name : List ℕ) (d : ℕ)
    → Does names (put_by (local_named names name) (bound_to w.globals name) d) (λ n. false) []
put_does w names name d = record {
  flagged = put_flags (local_named names name) (bound_to w.globals name) d;
  pointed = λ out index n visible h. put_free (local_named names name) (bound_to w.globals name) d out index (h.word name) ∙ sym (and-false visible);
}

-- ---- places

address_flags : (l : Option Named) (e : Option Entity) (d : ℕ) → flags_of (address_by l e d) ≡ []
address_flags (Some l) e d = by l.home
  where
    by : (h : Home) → flags_of (home_address h d) ≡ []
    by (InBlock o i) = refl
address_flags None (Some (Variable s at)) d = refl
address_flags None None d = refl

address_led : (l : Option Named) (e : Option Entity) (d out index : ℕ) → addresses out index (address_by l e d) ≡ leads out index l
address_led (Some l) e d out index = by l.home
  where
    or_false : (a : Bool) → (a || false) ≡ a
    or_false true = refl
    or_false false = refl

    by : (h : Home) → addresses out index (home_address h d) ≡ at_home h out index
    by (InBlock o i) = or_false (nat_eq o out && nat_eq i index)
address_led None (Some (Variable s at)) d out index = refl
address_led None None d out index = refl

pub address_does : (w : World) (names : List Named) (name : List ℕ) (d : ℕ)
    → Does names (address_by (local_named names name) (bound_to w.globals name) d) (λ n. bytes_eq name n) []
address_does w names name d = record {
  flagged = address_flags (local_named names name) (bound_to w.globals name) d;
  pointed = λ out index n visible h. address_led (local_named names name) (bound_to w.globals name) d out index ∙ h.led name;
}

-- ---- what is no word

value_word : (s : Shape) → is_word (valued s) ≡ false → is_word s ≡ false
value_word (ArrayShape count of) h = refl
value_word IntShape h = h
value_word UnsignedShape h = h
value_word CharShape h = h
value_word VoidShape h = h
value_word (ThinShape bound owner to) h = h
value_word (FatShape to) h = h
value_word HandleShape h = h
value_word KeyShape h = h
value_word (StructShape tag) h = h
value_word (UnionShape tag) h = h

not_led : (l : Option Named) (e : Option Entity) (out index : ℕ) → is_word (valued (shape_by l e)) ≡ false → is_word_at out index l ≡ true
    → leads out index l ≡ false
not_led None e out index h g = refl
not_led (Some l) e out index h g = by (at_home l.home out index) (is_word l.shape) (value_word l.shape h) g
  where
    by : (there word : Bool) → word ≡ false → (not there || word) ≡ true → there ≡ false
    by true word e g = cc
    by false word e g = refl

-- a word's home isn't that of a name that is no word's
pub apart : (w : World) (names : List Named) (e : Expression) (out index : ℕ) (name : List ℕ) (visible : Bool) → Leads names out index name visible
    → is_word (static_shape w names e) ≡ false → (visible && is_name name e) ≡ false
apart w names (Expression.Variable x) out index name visible h is =
    sym (h.led x.text) ∙ not_led (local_named names x.text) (bound_to w.globals x.text) out index is (h.word x.text)
apart w names (Expression.Grouped at inner) out index name visible h is = apart w names inner out index name visible h is
apart w names _ out index name visible h is = and-false visible

-- the place of what is no word
pub placed : (w : World) (names : List Named) (e : Expression) (code : List Statement) (flags : List Bool)
    → Does names code (λ n. is_name n e || pointed n e) flags → is_word (static_shape w names e) ≡ false → Does names code (λ n. pointed n e) flags
placed w names e code flags h is = record {
  flagged = h.flagged;
  pointed = λ out index name visible g.
      h.pointed out index name visible g ∙ by visible (is_name name e) (pointed name e) (apart w names e out index name visible g is);
}
  where
    by : (v a b : Bool) → (v && a) ≡ false → (v && (a || b)) ≡ (v && b)
    by true true b h = cc
    by true false b h = refl
    by false a b h = refl

pub whole_word : (w : World) (s : Shape) → IsWholeShape w.unions w.structs s → is_word s ≡ false
whole_word w (StructShape tag) h = refl
whole_word w (UnionShape tag) h = refl
whole_word w _ h = absurd h

pub union_word : (unions : List Layout) (s : Shape) → IsUnionShape unions s → is_word s ≡ false
union_word unions (UnionShape tag) h = refl
union_word unions _ h = absurd h

-- what has a member is a struct
pub struct_word : (w : World) (s : Shape) (f : List ℕ) → IsObject w.unions w.structs (member_shape w s f) → is_word s ≡ false
struct_word w (StructShape tag) f h = refl
struct_word w IntShape f h = absurd h
struct_word w UnsignedShape f h = absurd h
struct_word w CharShape f h = absurd h
struct_word w VoidShape f h = refl
struct_word w (ThinShape bound owner to) f h = absurd h
struct_word w (FatShape to) f h = refl
struct_word w HandleShape f h = absurd h
struct_word w KeyShape f h = absurd h
struct_word w (UnionShape tag) f h = refl
struct_word w (ArrayShape count of) f h = refl
