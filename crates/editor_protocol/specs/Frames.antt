-- View of code: what a frame says of the bytes in which it stands.
use Rattle.std.specs.Prelude.{ℕ, ◌+◌, ◌^◌, ◌<◌, ◌≤◌, List, length}
use Rattle.editor_protocol.specs.declared.frames.Frame.{Frame}
use Rattle.editor_protocol.specs.declared.frames.Frame.TheVariants.{Partial, Whole, TooLong, Broken}

-- an offset behind at least one byte
abbrev pub IsBehind : ℕ → List ℕ → Type 0
IsBehind at bytes = (0 < at) × (at ≤ length bytes)

-- a frame's body lies in the bytes and is no longer than is taken; what is passed over is in the bytes, and no nothing
abbrev pub IsWithin : Frame → List ℕ → Type 0
IsWithin Partial bytes = Unit {0}
IsWithin (Whole begin end) bytes = (0 < begin) × (begin ≤ end) × (end ≤ length bytes) × (end ≤ begin + 2 ^ 24)
IsWithin (TooLong begin body) bytes = IsBehind begin bytes
IsWithin (Broken end) bytes = IsBehind end bytes
