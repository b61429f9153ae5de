-- Believed: members are of structs: a tagged union has none that an expression could name.
use Rattle.std.specs.Prelude.{◌≡◌, Bool, false, Option, Some, None}
use Rattle.cyc_tree.specs.Tree.{Array, Arrow, Dot, Expression, Expressions, Index, Links, Made, MoreExpressions, MoreLinks, NoExpressions, NoLinks, NoSuffixes}
use Rattle.cyc_tree.specs.Tree.{One, Suffixes}
use Rattle.source_meaning.specs.Expressions.{is_unique_region}
use Rattle.source_typing.specs.Expressions.{judge}
use Rattle.source_typing.specs.Making.{goal_of, inside, with_counter}
use Rattle.source_typing.specs.Places.{arrow, indexed, member}
use Rattle.source_typing.specs.Scope.{Env, Value}
use Rattle.source_typing.specs.Tables.{Tables, Tag, tag_in}
use Rattle.source_typing.specs.Types.{StaticType, Struct, Thin, Fat, Unique}
use Rattle.source_typing.specs.Verdicts.{Of, Verdict, after, both}

-- a tag that is a union's
abbrev pub names_union : Option Tag → Bool
names_union None = false
names_union (Some t) = t.is_union

-- what has members is no union
abbrev pub IsNoUnion : Tables → StaticType → Type 0
IsNoUnion tables (Struct tag rs) = (names_union (tag_in tables tag) ≡ false)
IsNoUnion tables t = Unit {0}

-- and neither is what a pointer to it leads to
abbrev pub LeadsToNoUnion : Tables → StaticType → Type 0
LeadsToNoUnion tables (Thin n r t) = IsNoUnion tables t
LeadsToNoUnion tables (Fat r t) = IsNoUnion tables t
LeadsToNoUnion tables (Unique n t) = IsNoUnion tables t
LeadsToNoUnion tables t = Unit {0}

abbrev pub OfNoUnion : Env → Verdict Value → Type 0
OfNoUnion g (Of v) = IsNoUnion g.tables v.type
OfNoUnion g v = Unit {0}

abbrev pub LeadingToNoUnion : Env → Verdict Value → Type 0
LeadingToNoUnion g (Of v) = LeadsToNoUnion g.tables v.type
LeadingToNoUnion g v = Unit {0}

-- each member that an expression names is a struct's
abbrev mutual
  pub HasStructMembers : Env → Expression → Type 0
  HasStructMembers g (Expression.Call name arguments) = AllHaveStructMembers g arguments
  HasStructMembers g (Expression.MakeUnion tag f e) = HasStructMembers g e
  HasStructMembers g (Expression.NumElts at e) = HasStructMembers g e
  HasStructMembers g (Expression.Grouped at e) = HasStructMembers g e
  HasStructMembers g (Expression.Suffixed primary suffixes) = HasStructMembers g primary × SuffixesHaveStructMembers g (judge g primary) suffixes
  HasStructMembers g (Expression.Prefixed at operator e) = HasStructMembers g e
  HasStructMembers g (Expression.New at new) = MadeHasStructMembers g new
  HasStructMembers g (Expression.NewIn at handle new) =
      HasStructMembers g handle × MadeHasStructMembers (inside (goal_of (is_unique_region handle) g (judge g handle)) g) new
  HasStructMembers g (Expression.Chain first others) = HasStructMembers g first × LinksHaveStructMembers g others
  HasStructMembers g (Expression.AllOf first others) = HasStructMembers g first × AllHaveStructMembers g others
  HasStructMembers g (Expression.AnyOf first others) = HasStructMembers g first × AllHaveStructMembers g others
  HasStructMembers g (Expression.Assign to from) = HasStructMembers g to × HasStructMembers g from
  HasStructMembers g (Expression.Number at n suffix) = Unit {0}
  HasStructMembers g (Expression.Character at byte) = Unit {0}
  HasStructMembers g (Expression.Text at bytes) = Unit {0}
  HasStructMembers g (Expression.Null at) = Unit {0}
  HasStructMembers g (Expression.HeapRegion at) = Unit {0}
  HasStructMembers g (Expression.UniqueRegion at) = Unit {0}
  HasStructMembers g (Expression.Variable name) = Unit {0}

  pub AllHaveStructMembers : Env → Expressions → Type 0
  AllHaveStructMembers g NoExpressions = Unit {0}
  AllHaveStructMembers g (MoreExpressions first others) = HasStructMembers g first × AllHaveStructMembers g others

  pub LinksHaveStructMembers : Env → Links → Type 0
  LinksHaveStructMembers g NoLinks = Unit {0}
  LinksHaveStructMembers g (MoreLinks operator e others) = HasStructMembers g e × LinksHaveStructMembers g others

  pub SuffixesHaveStructMembers : Env → Verdict Value → Suffixes → Type 0
  SuffixesHaveStructMembers g v NoSuffixes = Unit {0}
  SuffixesHaveStructMembers g v (Index index others) = HasStructMembers g index × SuffixesHaveStructMembers g (both v (judge g index) (indexed g)) others
  SuffixesHaveStructMembers g v (Dot f others) = OfNoUnion g v × SuffixesHaveStructMembers g (after v (member g f)) others
  SuffixesHaveStructMembers g v (Arrow f others) = LeadingToNoUnion g v × SuffixesHaveStructMembers g (after v (arrow g f)) others

  pub MadeHasStructMembers : Env → Made → Type 0
  MadeHasStructMembers g (One e) = HasStructMembers g e
  MadeHasStructMembers g (Array index count e) = HasStructMembers g count × HasStructMembers (with_counter index g) e
