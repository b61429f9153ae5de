-- What the tag of a type means, by what its name means.
use Rattle.std.proofs.Common.{◌≡◌, subst}
use Rattle.std.specs.Prelude.{None, Some}
use Rattle.cyc_tree.specs.Tree.{Name, TypeName}
use Rattle.source_typing.specs.Tables.{Tables}
use Rattle.check_types.specs.Tagged.{IsNamed, TagIs, type_tag}
use Rattle.check_types.specs.declared.tagged.TagName.{TagName}

module _ (g : Tables) (t : TypeName) (n : TagName) where
  -- the tag of a type of structs or unions
  pub tag_means : (x : Name) → type_tag t ≡ Some x → IsNamed g x.text n → TagIs g t n
  tag_means x h named y e = let same : x ≡ y = cc in subst (λ (y : Name). IsNamed g y.text n) same named

  -- another type has none
  pub tag_of_none : type_tag t ≡ None → TagIs g t n
  tag_of_none h y e = absurd cc
