-- Types that are neither structs nor unions: integers and `void`, with pointers to them, and which regions of a type are missing.
use Rattle.std.proofs.Common.{◌≡◌, ℕ, true, List, [], ◌++◌, map, refl, sym, ap, ◌∙◌}
use Rattle.std.specs.Prelude.{None, Some}
use Rattle.cyc_tree.specs.Tree.{Name, TypeName}
use Rattle.source_typing.specs.Tables.{Tables}
use Rattle.source_typing.specs.Types.{PartialType}
use Rattle.source_typing.specs.Verdicts.{unless_faulty}
use Rattle.source_typing.specs.Written.{
  Found,
  RegionNamed,
  Spot,
  all_found,
  any_missing,
  base_spots,
  pointers_to,
  spot,
  spots_of,
  type_built,
  written,
  written_with,
}
use Rattle.check_types.specs.Arguments.{written_arguments}
use Rattle.check_types.specs.Reading.{plain_of}
use Rattle.check_types.specs.Tagged.{base_tag, is_union_base, pointed_on, pointers_found, tag_base, type_tag}
use Rattle.cyc_tree.specs.Tree as tree
use Rattle.source_typing.specs.Faults as rules

-- ---- integers and `void`, with pointers to them

no_base_spots : (g : Tables) (b : tree.Base) (p : PartialType) → plain_of b ≡ Some p → base_spots g b ≡ []
no_base_spots g tree.Int p e = refl
no_base_spots g tree.Unsigned p e = refl
no_base_spots g tree.Char p e = refl
no_base_spots g tree.Void p e = refl
no_base_spots g (tree.Struct tag rs) p e = absurd cc
no_base_spots g (tree.Union tag rs) p e = absurd cc
no_base_spots g (tree.Handle r) p e = absurd cc
no_base_spots g (tree.Key r) p e = absurd cc

pub plain_spots : (g : Tables) (t : TypeName) (p : PartialType) → plain_of t.base ≡ Some p → spots_of g t ≡ map (λ q. spot true q.region) t.pointers
plain_spots g t p e = ap (λ ss. ss ++ map (λ q. spot true q.region) t.pointers) (no_base_spots g t.base p e)

built_plain : (g : Tables) (at : ℕ) (b : tree.Base) (ps : List tree.Pointer) (p : PartialType) (x : List Found × List rules.Fault) → plain_of b ≡ Some p
    → written_with g (record { at = at; base = b; pointers = ps }) x ≡ unless_faulty x.1 (type_built at (pointers_to ps x.0 (Some p)))
built_plain g at tree.Int ps p (fs, bad) e = ap (λ o. unless_faulty bad (type_built at (pointers_to ps fs o))) e
built_plain g at tree.Unsigned ps p (fs, bad) e = ap (λ o. unless_faulty bad (type_built at (pointers_to ps fs o))) e
built_plain g at tree.Char ps p (fs, bad) e = ap (λ o. unless_faulty bad (type_built at (pointers_to ps fs o))) e
built_plain g at tree.Void ps p (fs, bad) e = ap (λ o. unless_faulty bad (type_built at (pointers_to ps fs o))) e
built_plain g at (tree.Struct tag rs) ps p x e = absurd cc
built_plain g at (tree.Union tag rs) ps p x e = absurd cc
built_plain g at (tree.Handle r) ps p x e = absurd cc
built_plain g at (tree.Key r) ps p x e = absurd cc

pub plain_built : (g : Tables) (t : TypeName) (p : PartialType) (x : List Found × List rules.Fault) → plain_of t.base ≡ Some p
    → written_with g t x ≡ unless_faulty x.1 (type_built t.at (pointers_to t.pointers x.0 (Some p)))
plain_built g t p x e = built_plain g t.at t.base t.pointers p x e

-- as it is written
pub plain_written : (g : Tables) (names : List RegionNamed) (t : TypeName) (p : PartialType) → plain_of t.base ≡ Some p
    → pointed_on names t p ≡ written g names t
plain_written g names t p e =
    sym (plain_built g t p (pointers_found names t) e) ∙ ap (λ ss. written_with g t (all_found names ss)) (sym (plain_spots g t p e))

-- ---- a struct's or union's base

pub tag_is_base : (t : TypeName) (x : Name) → type_tag t ≡ Some x → t.base ≡ tag_base (is_union_base t.base) x (written_arguments t.base)
tag_is_base t x h = by t.base h
  where
    by : (b : tree.Base) → base_tag b ≡ Some x → b ≡ tag_base (is_union_base b) x (written_arguments b)
    by (tree.Struct tag rs) h = let same : tag ≡ x = cc in ap (λ y. tree.Struct y rs) same
    by (tree.Union tag rs) h = let same : tag ≡ x = cc in ap (λ y. tree.Union y rs) same
    by tree.Int h = absurd cc
    by tree.Unsigned h = absurd cc
    by tree.Char h = absurd cc
    by tree.Void h = absurd cc
    by (tree.Handle r) h = absurd cc
    by (tree.Key r) h = absurd cc

-- ---- missing regions

-- of a type that is neither struct nor union: those of its pointers
pub other_misses : (g : Tables) (t : TypeName) → type_tag t ≡ None → any_missing (map (λ q. spot true q.region) t.pointers) ≡ any_missing (spots_of g t)
other_misses g t h = by t.base h
  where
    others : List Spot
    others = map (λ q. spot true q.region) t.pointers

    by : (b : tree.Base) → base_tag b ≡ None → any_missing others ≡ any_missing (base_spots g b ++ others)
    by tree.Int h = refl
    by tree.Unsigned h = refl
    by tree.Char h = refl
    by tree.Void h = refl
    by (tree.Handle r) h = refl
    by (tree.Key r) h = refl
    by (tree.Struct tag rs) h = absurd cc
    by (tree.Union tag rs) h = absurd cc
