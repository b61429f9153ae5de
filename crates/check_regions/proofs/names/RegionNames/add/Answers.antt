use Rattle.std.proofs.Common.{◌≡◌, ◌∙◌, ◌++◌, [], ◌∷◌, List, None, sym, subst}
use Rattle.indexmap.proofs.CallerLemmas.{insert_entry-new}
use Rattle.std.specs.Prelude.{bytes_eq}
use Rattle.check_regions.specs.Names.{AreDistinct, Entry, at}
use Rattle.check_regions.proofs.Naming.{added, distinct_more, not_there}
use Rattle.check_regions.proofs.names.RegionNames.add.Goals as goal

pub invariant_of-self-2 : goal.invariant_of-self-2
invariant_of-self-2 c =
    let es : List Entry = c.self.inside.names.entries in
    let none : at es c.args.name.now ≡ None =
    not_there es c.self.invariant c.args.self.now c.self.view_is c.args.name.now c.find.result c.find.ensures (sym c.is_some.ensures ∙ c.if-is_some.false) in
    let more : c.insert.new.self.entries ≡ es ++ (c.args.name, c.args.region) ∷ [] =
    c.in_ok-insert.ensures.entries ∙ insert_entry-new (λ x y. bytes_eq x.now y.now) c.self.inside.names c.args.name c.args.region none in
    subst AreDistinct (sym more) (distinct_more es (c.args.name, c.args.region) c.self.invariant none)

pub returns-clause-added : goal.returns-clause-added
returns-clause-added c =
    let es : List Entry = c.self.inside.names.entries in
    let none : at es c.args.name.now ≡ None =
    not_there es c.self.invariant c.args.self.now c.self.view_is c.args.name.now c.find.result c.find.ensures (sym c.is_some.ensures ∙ c.if-is_some.false) in
    let more : c.insert.new.self.entries ≡ es ++ (c.args.name, c.args.region) ∷ [] =
    c.in_ok-insert.ensures.entries ∙ insert_entry-new (λ x y. bytes_eq x.now y.now) c.self.inside.names c.args.name c.args.region none in
    added es c.self.invariant c.args.self.now c.self.view_is c.args.name c.args.region c.insert.new.self.entries none more
