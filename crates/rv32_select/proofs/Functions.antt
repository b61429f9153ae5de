-- The lines of a function, and of those behind it.
use Rattle.std.proofs.Common.{◌≡◌, ℕ, ◌+◌, Bool, List, [], ◌∷◌, ◌++◌, ap, ◌∙◌}
use Rattle.std.proofs.lemmas.List.{append_assoc}
use Rattle.core_meaning.specs.Core.{Function}
use Rattle.core_lines.specs.declared.line.Line.{Line}
use Rattle.core_lines.specs.declared.line.Line.TheVariants.{Label}
use Rattle.core_lines.specs.Frames.{epilogue_code}
use Rattle.core_lines.specs.Operands.{prologue_code}
use Rattle.core_lines.specs.Homes.{homes_in, saved_slot, saved_by}
use Rattle.core_lines.specs.Parameters.{parameter_register, parameter_registers}
use Rattle.core_lines.specs.Choosing.{far}
use Rattle.core_lines.specs.Saved.{live_at_start, saves_at}
use Rattle.core_lines.specs.Selected.{Surroundings, frame_bytes, around, labels_within, statements_code, ended_code, function_code, functions_code}
use Rattle.core_lines.specs.Completing.{ends_in_return_all}
use Rattle.core_lines.proofs.Returning.{statements_jump_last, ended_behind}

-- lines behind others, where more come behind them
behind : (before lines all more : List Line) → all ≡ before ++ lines → all ++ more ≡ before ++ (lines ++ more)
behind before lines all more e = ap (λ x. x ++ more) e ∙ append_assoc before lines more

module _ (statics : List ℕ) (refused number next : ℕ) (f : Function) where
  pub function_joined : (before labelled begun inside joined ended whole : List Line) (bytes first slot : ℕ) (homes saved : List ℕ) (start kept : List Bool)
      (u : Surroundings)
      → bytes ≡ frame_bytes f → u ≡ around far statics next f → first ≡ next + 1 → slot ≡ saved_slot f → homes ≡ homes_in f → saved ≡ saved_by f
      → start ≡ live_at_start statics f → kept ≡ saves_at statics f → labelled ≡ before ++ Label number ∷ []
      → begun ≡ labelled ++ prologue_code refused bytes u.passed (saved_slot f) saved start (parameter_register homes f.body) f.parameters
      → inside ≡ begun ++ statements_code kept u first number number f.body → joined ≡ ended_code (ends_in_return_all f.body) inside
      → ended ≡ joined ++ Label next ∷ []
      → whole ≡ ended ++ epilogue_code bytes slot saved → whole ≡ before ++ function_code far statics refused number next f
  function_joined before labelled begun inside joined ended whole bytes first slot homes saved start kept u b a n h g r v k l p s j t e =
      let label : List Line = Label number ∷ [] in
      let end : List Line = Label next ∷ [] in
      let w = around far statics next f in
      let size = frame_bytes f in
      let prologue = prologue_code refused size f.passed (saved_slot f) (saved_by f) (live_at_start statics f) (parameter_registers f) f.parameters in
      let returns = ends_in_return_all f.body in
      let all = statements_code (saves_at statics f) w (next + 1) number number f.body in
      let body = ended_code returns all in
      let epilogue = epilogue_code size (saved_slot f) (saved_by f) in
      let p' : begun ≡ labelled ++ prologue =
      p ∙ (λ i. labelled ++ prologue_code refused (b i) ((a i).passed) (saved_slot f) (r i) (v i) (parameter_register (g i) f.body) f.parameters) in
      let s' : inside ≡ begun ++ all =
      s ∙ (λ i. begun ++ statements_code (k i) (a i) (n i) number number f.body) in
      let j' : joined ≡ begun ++ body =
      j ∙ ap (λ ls. ended_code returns ls) s'
      ∙ ended_behind next begun returns all (statements_jump_last (saves_at statics f) w (next + 1) number number f.body) in
      let one = p' ∙ behind before label labelled prologue l in
      let two = j' ∙ behind before (label ++ prologue) begun body one in
      let three = t ∙ behind before (label ++ prologue ++ body) joined end two in
      e ∙ (λ i. ended ++ epilogue_code (b i) (h i) (r i)) ∙ behind before (label ++ prologue ++ body ++ end) ended epilogue three

  pub functions_more : (fs : List Function) (before one : List Line) → one ≡ before ++ function_code far statics refused number next f
      → one ++ functions_code far statics refused (number + 1) (next + labels_within f) fs ≡ before ++ functions_code far statics refused number next (f ∷ fs)
  functions_more fs before one e =
      let rest = functions_code far statics refused (number + 1) (next + labels_within f) fs in
      ap (λ x. x ++ rest) e ∙ append_assoc before (function_code far statics refused number next f) rest
