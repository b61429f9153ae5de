-- Samples of what a watch takes in: words of the manual's examples, and the calls of short runs.
use Rattle.std.proofs.Common.{◌≡◌, List, [], ◌∷◌, refl}
use Rattle.rv32_isa.specs.Table.{decoded}
use Rattle.cyc_host.specs.declared.actions.Action.TheVariants.{Calls, Returns, Asks, Other}
use Rattle.cyc_host.specs.Watched.{action, action_at, actions_of, active_by, counted_once, requested_by}

-- jal x1, 8 calls; jal x0, 8 and jal x5, 8 don't
call_by_jal : action (decoded 0x008000ef) ≡ Calls
unfolding decoded
call_by_jal = refl

no_call_by_jump : action (decoded 0x0080006f) ≡ Other
unfolding decoded
no_call_by_jump = refl

no_call_by_another_link : action (decoded 0x008002ef) ≡ Other
unfolding decoded
no_call_by_another_link = refl

-- jalr x0, 0(x1) returns; jalr x0, 0(x5), jalr x1, 0(x1) and jalr x1, 0(x5) don't
return_by_jalr : action (decoded 0x00008067) ≡ Returns
unfolding decoded
return_by_jalr = refl

no_return_by_another : action (decoded 0x00028067) ≡ Other
unfolding decoded
no_return_by_another = refl

no_return_with_link : action (decoded 0x000080e7) ≡ Other
unfolding decoded
no_return_with_link = refl

-- ecall asks; ebreak, addi x0, x0, 0 and a word that is no instruction don't
request_by_ecall : action (decoded 0x00000073) ≡ Asks
unfolding decoded
request_by_ecall = refl

no_request_by_break : action (decoded 0x00100073) ≡ Other
unfolding decoded
no_request_by_break = refl

no_action_of_addi : action (decoded 0x00000013) ≡ Other
unfolding decoded
no_action_of_addi = refl

no_action_of_no_instruction : action (decoded 0x00000000) ≡ Other
unfolding decoded
no_action_of_no_instruction = refl

-- the words of a code, little-endian: ecall, and jal x1, 8; a byte that is left is no word
words_in_turn : actions_of (0x73 ∷ 0 ∷ 0 ∷ 0 ∷ 0xef ∷ 0 ∷ 0x80 ∷ 0 ∷ 0x73 ∷ []) 2 ≡ Asks ∷ Calls ∷ []
unfolding decoded
words_in_turn = refl

-- the code begins at 0x10000
at_its_address : action_at (Asks ∷ Calls ∷ []) 0x10004 ≡ Calls
at_its_address = refl

nothing_before : action_at (Asks ∷ Calls ∷ []) 0xfffc ≡ Other
nothing_before = refl

nothing_behind : action_at (Asks ∷ Calls ∷ []) 0x10008 ≡ Other
nothing_behind = refl

-- a call is entered as the innermost, and left before those around it; a return without a call leaves none
entered : active_by Calls 0x10020 (0x10004 ∷ []) ≡ 0x10020 ∷ 0x10004 ∷ []
entered = refl

left : active_by Returns 0x10040 (0x10020 ∷ 0x10004 ∷ []) ≡ 0x10004 ∷ []
left = refl

none_left : active_by Returns 0x10040 [] ≡ []
none_left = refl

-- a request counts for its own number, and no other instruction does
one_request : requested_by Asks 2 (7 ∷ 8 ∷ 9 ∷ []) ≡ 7 ∷ 8 ∷ 10 ∷ []
one_request = refl

no_request : requested_by Calls 2 (7 ∷ 8 ∷ 9 ∷ []) ≡ 7 ∷ 8 ∷ 9 ∷ []
no_request = refl

no_such_number : counted_once (7 ∷ 8 ∷ 9 ∷ []) 3 ≡ 7 ∷ 8 ∷ 9 ∷ []
no_such_number = refl
