use Rattle.std.proofs.Common.{◌∙◌, ap, sym, subst, ◌<◌, ◌/◌, length}
use Rattle.region_runtime.specs.Pool.{is_taken_by}
use Rattle.region_runtime.specs.Steps.{pool_of, with_word}
use Rattle.region_runtime.proofs.Words.{taken_page}
use Rattle.region_runtime.proofs.Along.{apart, bytes_along}
use Rattle.region_runtime.proofs.Sets.{WordSays, word_says}
use Rattle.region_runtime.proofs.pool.Pool.set_page_word.Goals as goal

pub returns-then-field-lt4-clause-bytes : goal.returns-then-field-lt4-clause-bytes
returns-then-field-lt4-clause-bytes c = bytes_along _ _ (pool_of c.begin.new.self) c.self.view_is (ap (λ r. r.bytes) c.begin.ensures.raw)

pub returns-then-field-lt4-clause-apart : goal.returns-then-field-lt4-clause-apart
returns-then-field-lt4-clause-apart c = apart (pool_of c.begin.new.self)

pub returns-then-not-is_taken-clause-bytes : goal.returns-then-not-is_taken-clause-bytes
returns-then-not-is_taken-clause-bytes c =
    bytes_along _ _ (pool_of c.is_taken.new.self) c.self.view_is (ap (λ r. r.bytes) (c.is_taken.ensures.raw ∙ c.begin.ensures.raw))

pub returns-then-not-is_taken-clause-apart : goal.returns-then-not-is_taken-clause-apart
returns-then-not-is_taken-clause-apart c = apart (pool_of c.is_taken.new.self)

pub set_own_word-requires-clause-page : goal.set_own_word-requires-clause-page
set_own_word-requires-clause-page c =
    subst (λ r. c.args.page < length r.words / 16) (sym (c.is_taken.ensures.raw
    ∙ c.begin.ensures.raw)) (taken_page _ c.args.page (ap (λ t. is_taken_by t.word c.args.page) (sym c.begin.ensures.shape) ∙ sym c.is_taken.ensures.value
    ∙ c.if-not-is_taken.false))

-- what is said of a word that is set
set_says : (c : goal.After-set_own_word) → WordSays c.args.self.now (pool_of c.set_own_word.new.self) c.args.page c.args.field c.args.value
set_says c =
    word_says (pool_of c.self.inside.book) c.args.self.now (pool_of c.set_own_word.new.self) c.self.view_is c.self.invariant
    (c.set_own_word.ensures.long ∙ ap (λ r. length r.words) (c.is_taken.ensures.raw ∙ c.begin.ensures.raw))
    (c.set_own_word.ensures.bytes ∙ ap (λ r. r.bytes) (c.is_taken.ensures.raw ∙ c.begin.ensures.raw))
    c.args.page c.args.field c.args.value (ap (λ t. is_taken_by t.word c.args.page) (sym c.begin.ensures.shape) ∙ sym c.is_taken.ensures.value
    ∙ c.if-not-is_taken.false) c.if-field-lt4.false c.if-field-gt15.false
    (c.set_own_word.ensures.shape ∙ ap (with_word c.args.page c.args.field c.args.value) (c.is_taken.ensures.shape ∙ c.begin.ensures.shape))

pub invariant_of-self-2 : goal.invariant_of-self-2
invariant_of-self-2 c = (set_says c).sound

pub returns-clause-words : goal.returns-clause-words
returns-clause-words c = (set_says c).words

pub returns-clause-holds : goal.returns-clause-holds
returns-clause-holds c = (set_says c).holds

pub returns-clause-tags : goal.returns-clause-tags
returns-clause-tags c = (set_says c).tags

pub returns-clause-taken : goal.returns-clause-taken
returns-clause-taken c = (set_says c).taken

pub returns-clause-bytes : goal.returns-clause-bytes
returns-clause-bytes c = (set_says c).bytes

pub returns-clause-apart : goal.returns-clause-apart
returns-clause-apart c = apart (pool_of c.set_own_word.new.self)
