-- Believed: which requests there are, and when they may be made.
use Rattle.std.specs.Prelude.{ℕ, List, [], ◌∷◌, map, Option, Some, None, Result, Ok, Err, true, false, codes, if◌then◌else◌}
use Rattle.editor_protocol.specs.declared.messages.Code.{Code}
use Rattle.editor_protocol.specs.declared.messages.Code.TheVariants.{InvalidRequest, MethodNotFound, ServerNotInitialized}
use Rattle.editor_features.specs.declared.method.Method.{Method}
use Rattle.editor_features.specs.declared.method.Method.TheVariants.{Initialize, Shutdown}
use Rattle.language_server.specs.declared.methods.TheConstants.{METHODS}
use Rattle.language_server.specs.declared.methods.Phase.{Phase}
use Rattle.language_server.specs.declared.methods.Phase.TheVariants.{Fresh, Ready, Shut, Ended}
use Rattle.cyc_lexer.specs.Reading.{same}

-- the requests, by their names
abbrev pub methods : List (Method × List ℕ)
methods = map (λ e. (e.0, e.1.now)) METHODS

abbrev pub find_method : List (Method × List ℕ) → List ℕ → Option Method
find_method [] name = None
find_method (e ∷ es) name = if same name e.1 then Some e.0 else find_method es name

-- before the server is initialized
abbrev pub first_admission : Method → Result Method Code
first_admission Initialize = Ok Initialize
first_admission _ = Err ServerNotInitialized

-- while it is
abbrev pub later_admission : Method → Result Method Code
later_admission Initialize = Err InvalidRequest
later_admission method = Ok method

-- which requests may be made when, and with what the others are refused
abbrev pub admission : Phase → Option Method → Result Method Code
admission Fresh None = Err ServerNotInitialized
admission Fresh (Some method) = first_admission method
admission Ready None = Err MethodNotFound
admission Ready (Some method) = later_admission method
admission Shut method = Err InvalidRequest
admission (Ended as_asked) method = Err InvalidRequest

-- how far a session is behind a request that was admitted or not: one that is refused leaves it where it was
abbrev pub phase_behind : Phase → Result Method Code → Phase
phase_behind phase (Err code) = phase
phase_behind phase (Ok Initialize) = Ready
phase_behind phase (Ok Shutdown) = Shut
phase_behind phase (Ok _) = phase

-- the notification that ends a session
abbrev pub exit : List ℕ
exit = codes "exit"

-- how far a session is that ends: it was asked to before, or not
abbrev pub ended : Phase → Phase
ended Fresh = Ended false
ended Ready = Ended false
ended Shut = Ended true
ended (Ended as_asked) = Ended false

-- how far a session is behind a notification
abbrev pub phase_told : Phase → List ℕ → Phase
phase_told phase name = if same name exit then ended phase else phase
