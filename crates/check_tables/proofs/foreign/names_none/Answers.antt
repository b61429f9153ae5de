use Rattle.std.proofs.Common.{◌≡◌, ap, map, sym, ◌∙◌}
use Rattle.std.specs.Prelude.{◌&&◌}
use Rattle.cyc_tree.specs.View.{pointer_tree, type_tree}
use Rattle.check_types.specs.Arguments.{named_spots}
use Rattle.check_tables.proofs.GlobalTypes.{none_both}
use Rattle.check_tables.specs.Globals.{base_regions, names_none, spots_in}
use Rattle.check_tables.proofs.foreign.names_none.Goals as goal

pub returns-then-are_unnamed : goal.returns-then-are_unnamed
returns-then-are_unnamed c =
    let t = type_tree c.args.of.now in
    let rs = base_regions t.base in
    let others = spots_in t.pointers in
    let own : c.are_unnamed.result ≡ names_none (named_spots rs) =
    c.are_unnamed.ensures ∙ ap (λ qs. names_none (named_spots qs)) c.base_regions.ensures in
    c.are_into_unnamed.ensures ∙ ap (λ ps. names_none (spots_in (map pointer_tree ps))) c.deref.ensures.value
    ∙ ap (λ b. b && names_none others) (sym c.if-are_unnamed.true ∙ own) ∙ none_both rs others

pub returns-else-are_unnamed : goal.returns-else-are_unnamed
returns-else-are_unnamed c =
    let t = type_tree c.args.of.now in
    let rs = base_regions t.base in
    let others = spots_in t.pointers in
    let own : c.are_unnamed.result ≡ names_none (named_spots rs) =
    c.are_unnamed.ensures ∙ ap (λ qs. names_none (named_spots qs)) c.base_regions.ensures in
    c.if-are_unnamed.false ∙ ap (λ b. b && names_none others) (sym c.if-are_unnamed.false ∙ own) ∙ none_both rs others
