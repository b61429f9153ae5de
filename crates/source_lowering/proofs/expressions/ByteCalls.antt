-- Calls of `getchar` and `putchar`.
use Rattle.std.proofs.Common.{◌≡◌, ℕ, ◌%◌, ◌^◌, ◌<◌, List, [], ◌∷◌, ◌++◌, Option, Some, None, refl, sym, ap, ◌∙◌, subst, arith}
use Rattle.cyc_words.specs.Events as events
use Rattle.step_trees.specs.Trees.{Says, Reads}
use Rattle.source_meaning.specs.Shapes.{IntShape}
use Rattle.source_meaning.specs.Memory as source
use Rattle.source_meaning.specs.Memory.{AsInt, Scalar, Integer}
use Rattle.source_meaning.specs.Steps as steps
use Rattle.source_meaning.specs.Steps.{give, ◌>>◌}
use Rattle.source_meaning.specs.Conversions.{one, integer}
use Rattle.source_meaning.specs.Places.{Sense}
use Rattle.source_meaning.specs.Calls.{converted_all, byte_value, read_byte, write_byte, flat}
use Rattle.core_meaning.specs.Memory.{Word}
use Rattle.core_meaning.specs.Core.{Statement, Do, Getchar, Putchar, Statements}
use Rattle.core_meaning.specs.Steps as core_steps
use Rattle.core_meaning.specs.Steps.{Config, with_temp}
use Rattle.core_meaning.specs.Operations.{does, byte_word}
use Rattle.core_meaning.specs.Meaning as meaning
use Rattle.source_lowering.specs.Lowered.{put}
use Rattle.source_lowering.specs.Simulation.{within, Point, SameState, SameAt, Next, AreKept, GrownAt, GoesOn, GivesAs, BothVisible, IsByte, first_in}
use Rattle.source_lowering.proofs.memory.Keeping.{later_self}
use Rattle.source_lowering.proofs.Runs.{stuck_same, says_same, reads_same, pays_same, less_fuel, put_all}
use Rattle.source_lowering.proofs.values.Integers.{word_given}
use Rattle.source_lowering.proofs.values.Values.{put_value, over}
use Rattle.source_lowering.proofs.expressions.Calls.{AllGiven, ArgumentsAs}

byte_small : (b : Option ℕ) → IsByte b → byte_value b < 2 ^ 32
byte_small None h = omega arith
byte_small (Some b) h = omega (arith, h)

byte_is : (b : Option ℕ) → byte_word b ≡ byte_value b
byte_is None = refl
byte_is (Some b) = refl

pub read_gives : (p : Point) (n d : ℕ) → GivesAs p n d IntShape (read_byte []) (Do (Getchar d) ∷ [])
read_gives p n d = record {
  same = λ m c s rest next fits goes.
      pays_same p.world p.program n (λ m'. Reads (λ b. s (Integer AsInt (byte_value b) ∷ []) m')) m (λ kept. Reads
      (λ b. meaning.statements rest next (with_temp d (Word (byte_word b)) kept))) c
      (λ j less. less_fuel p.world p.program n j _ _ (omega (arith, less))
      (reads_same p.world p.program n (λ b. s (Integer AsInt (byte_value b) ∷ []) m) (λ b. meaning.statements rest next (with_temp d (Word (byte_word b)) c))
      (λ b byte.
      put_value p n d m c m c IntShape (Integer AsInt (byte_value b) ∷ []) (Word (byte_word b)) s (meaning.statements rest next) fits
      (later_self (within p) m c.memory) (λ k h. refl) refl
      (word_given p.world m c.memory AsInt (byte_value b) (Word (byte_word b)) (byte_small b byte) (ap (λ z. Word z) (byte_is b))) goes)));
}

pub stuck_read : (p : Point) (n d : ℕ) (e : Sense) (es : List Sense) (code : List Statement) → GivesAs p n d IntShape (read_byte (e ∷ es)) code
stuck_read p n d e es code = record { same = λ m c s rest next fits goes. stuck_same p.world p.program n _ }

-- the low bits of an argument are written and given
written : (p : Point) (n d : ℕ) (m0 : source.Memory) (c0 : Config) (m : source.Memory) (c : Config) (word : ℕ) (s : List Scalar → source.Memory → steps.Step)
    (rest : Statements) (next : Next) → c.temps d ≡ Word word → SameState p m c → GrownAt p m0 c0 m c → AreKept d c0 c
    → GoesOn p n d m0 c0 IntShape s (meaning.statements rest next)
    → SameAt p n ((steps.pay >> (steps.show (events.ByteWritten (word % 256)) >> give (Integer AsInt (word % 256) ∷ []))) s m)
    (does (Putchar d d) (meaning.statements rest next) c)
written p n d m0 c0 m c word s rest next temp fits later kept goes =
    rw temp
    (pays_same p.world p.program n (λ m'. Says (events.Visible (events.ByteWritten (word % 256))) (s (Integer AsInt (word % 256) ∷ []) m')) m
    (λ left. Says (core_steps.Visible (events.ByteWritten (word % 256))) (meaning.statements rest next (with_temp d (Word (word % 256)) left))) c
    (λ j less. less_fuel p.world p.program n j _ _ (omega (arith, less))
    (says_same p.world p.program n (events.Visible (events.ByteWritten (word % 256))) (core_steps.Visible (events.ByteWritten (word % 256))) _ _
    (BothVisible (events.ByteWritten (word % 256)))
    (put_value p n d m0 c0 m c IntShape (Integer AsInt (word % 256) ∷ []) (Word (word % 256)) s (meaning.statements rest next) fits later kept refl
    (word_given p.world m c.memory AsInt (word % 256) (Word (word % 256)) (low word) refl) goes))))
  where
    low : (x : ℕ) → x % 256 < 2 ^ 32
    low x = omega arith

pub write_gives : (p : Point) (n d count : ℕ) (es : List Sense) (code : List Statement)
    → ArgumentsAs p n d count (IntShape ∷ []) (converted_all p.world (IntShape ∷ []) es) code
    → GivesAs p n d IntShape (write_byte p.world es) (code ++ (Do (Putchar d d) ∷ []))
write_gives p n d count es code arguments = record {
  same = λ m c s rest next fits goes.
      subst (λ z. SameAt p n (write_byte p.world es s m) (meaning.statements z next c)) (sym (put_all code (Do (Putchar d d) ∷ []) rest))
      (arguments.same m c (λ vss. one (flat vss) (λ v. integer v (λ x. after x s))) (put (Do (Putchar d d) ∷ []) rest) next fits (record {
        above = over goes.above (omega arith);
        go = λ m1 c1 vss fits1 later1 kept1 many all. byte m c m1 c1 vss s rest next fits1 later1 kept1 all goes;
      }));
}
  where
    after : ℕ → (List Scalar → source.Memory → steps.Step) → source.Memory → steps.Step
    after x s = (steps.pay >> (steps.show (events.ByteWritten (x % 256)) >> give (Integer AsInt (x % 256) ∷ []))) s

    byte : (m0 : source.Memory) (c0 : Config) (m : source.Memory) (c : Config) (vss : List (List Scalar)) (s : List Scalar → source.Memory → steps.Step)
        (rest : Statements) (next : Next) → SameState p m c → GrownAt p m0 c0 m c → AreKept d c0 c
        → AllGiven p.world m c.memory (IntShape ∷ []) vss d c.temps → GoesOn p n d m0 c0 IntShape s (meaning.statements rest next)
        → SameAt p n (one (flat vss) (λ v. integer v (λ x. after x s)) m) (does (Putchar d d) (meaning.statements rest next) c)
    byte m0 c0 m c [] s rest next fits later kept all goes = absurd all
    byte m0 c0 m c (vs ∷ (us ∷ vss)) s rest next fits later kept all goes = absurd all.1
    byte m0 c0 m c (vs ∷ []) s rest next fits later kept all goes =
        let v = all.0 in
        subst (λ z. SameAt p n (one z (λ u. integer u (λ x. after x s)) m) (does (Putchar d d) (meaning.statements rest next) c))
        (sym (ap (λ z. z ++ []) (v.alone ∙ ap (λ z. z ∷ []) v.shown.value)))
        (written p n d m0 c0 m c v.shown.word s rest next (ap (first_in (c.temps d)) v.shown.shown) fits later kept goes)
