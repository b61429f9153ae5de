-- View of code: a member of a union that a value is made of in code, as the rules say it.
use Rattle.std.specs.Prelude.{None, Option, Some}
use Rattle.cyc_tree.specs.Tree.{Name}
use Rattle.cyc_types.specs.Tags.{member_of, tag_of}
use Rattle.source_typing.specs.Calls.{union_member}
use Rattle.source_typing.specs.Tables.{Part, Tag, part_in}
use Rattle.source_typing.specs.Verdicts.{Unjudged, Verdict}
use Rattle.check_calls.specs.declared.unions.UnionMember.{UnionMember}

abbrev pub made_of : UnionMember → Tag × Part
made_of m = (tag_of m.text.now m.tag.now, member_of m.member.now)

-- the member of a union, where there is one of its name
abbrev pub union_in : Name → Option Tag → Verdict (Tag × Part)
union_in f None = Unjudged
union_in f (Some t) = union_member f t (part_in t.parts f.text)
