use Rattle.std.proofs.Common.{Some, ap, subst, sym, ◌∙◌}
use Rattle.cyc_types.specs.Types.{static_type}
use Rattle.check_scopes.specs.Means.{Means}
use Rattle.source_typing.specs.Declarations.{what_after, what_of}
use Rattle.source_typing.specs.Regions.{TheHeap}
use Rattle.source_typing.specs.Tables.{OfValue}
use Rattle.check_faults.specs.Faults.{fault_of}
use Rattle.check_faults.specs.Verdicts.{short_of}
use Rattle.check_tables.proofs.Globals.{of_bytes, of_means, unjudged_bytes, unjudged_means, wrong_bytes, wrong_means}
use Rattle.check_tables.specs.Globals.{bytes_by}
use Rattle.check_tables.proofs.global.by_type.Goals as goal

pub returns-in-Wrong-clause-meaning : goal.returns-in-Wrong-clause-meaning
returns-in-Wrong-clause-meaning c fs v e is =
    subst (λ m. Means (Some (OfValue (what_after fs (what_of TheHeap c.args.count v)))) (Some m)) (sym c.unknown.ensures.meaning)
    (wrong_means fs c.args.count (fault_of c.in-Wrong.field-0) v (sym (ap (λ o. short_of static_type o) c.in-Wrong.is) ∙ e))

pub returns-in-NotJudged-clause-meaning : goal.returns-in-NotJudged-clause-meaning
returns-in-NotJudged-clause-meaning c fs v e is =
    subst (λ m. Means (Some (OfValue (what_after fs (what_of TheHeap c.args.count v)))) (Some m)) (sym c.of_no_type.ensures.meaning)
    (unjudged_means c.args.fault fs c.args.count v (sym (ap (λ o. short_of static_type o) c.in-NotJudged.is) ∙ e) is)

pub returns-in-Of-clause-meaning : goal.returns-in-Of-clause-meaning
returns-in-Of-clause-meaning c fs v e is =
    subst (λ m. Means (Some (OfValue (what_after fs (what_of TheHeap c.args.count v)))) (Some m)) (sym c.of_type.ensures.meaning)
    (of_means c.args.fault c.args.count c.in-Of.of fs v (sym (ap (λ o. short_of static_type o) c.in-Of.is) ∙ e) is)

pub returns-in-Wrong-clause-bytes : goal.returns-in-Wrong-clause-bytes
returns-in-Wrong-clause-bytes c fs g v e is b =
    c.unknown.ensures.bytes
    ∙ wrong_bytes fs g c.args.count (fault_of c.in-Wrong.field-0) v (sym (ap (λ o. short_of static_type o) c.in-Wrong.is) ∙ e)

pub returns-in-NotJudged-clause-bytes : goal.returns-in-NotJudged-clause-bytes
returns-in-NotJudged-clause-bytes c fs g v e is b =
    c.of_no_type.ensures.bytes ∙ unjudged_bytes fs g c.args.count v (sym (ap (λ o. short_of static_type o) c.in-NotJudged.is) ∙ e)

pub returns-in-Of-clause-bytes : goal.returns-in-Of-clause-bytes
returns-in-Of-clause-bytes c fs g v e is b =
    c.of_type.ensures.bytes ∙ of_bytes c.args.fault c.args.bytes fs (bytes_by g c.args.count v) is b
