-- View of code: structs and unions in code, as the rules say them.
use Rattle.std.specs.Prelude.{List, ℕ, map, option_map}
use Rattle.source_typing.specs.Tables.{Named, OfTag, Part}
use Rattle.cyc_types.specs.Types.{static_type}
use Rattle.cyc_types.specs.declared.tag.Member.{Member}
use Rattle.cyc_types.specs.declared.tag.Tag.{Tag}
use Rattle.source_typing.specs.Tables as rules

abbrev pub member_of : Member → Part
member_of m = record { name = m.name.now; type = option_map static_type m.of }

abbrev pub members_of : List Member → List Part
members_of ms = map member_of ms

abbrev pub tag_of : List ℕ → Tag → rules.Tag
tag_of name t = record {
  text = name;
  is_union = t.is_union;
  order = t.order;
  regions = t.regions;
  parts = members_of t.members.items;
  sound = t.sound;
}

abbrev pub named_tag : List ℕ → Tag → Named
named_tag name t = record { name = name; entry = OfTag (tag_of name t) }
