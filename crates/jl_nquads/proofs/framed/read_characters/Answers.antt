use Rattle.std.proofs.Common.{◌≡◌, ℕ, ◌+◌, ◌++◌, Bool, List, Option, Some, None, drop, take, sym, length, ◌<◌, ◌≤◌, ap, ◌∙◌, subst, arith}
use lib.Utf8.{encode}
use Rattle.jl_nquads.specs.CharactersRead.{close_of, letters_of, IsPlainFront}
use Rattle.jl_nquads.specs.EscapesRead.{EscapeAt, escape_first}
use Rattle.jl_nquads.specs.declared.escaped.Escape.{Escape}
use Rattle.jl_nquads.specs.declared.framed.Frame.{Frame}
use Rattle.jl_nquads.proofs.CharacterRuns.{HaveRead, plain_more, escape_more, escape_scalar, all_read, read_within, escape_some}
use Rattle.jl_nquads.proofs.EscapesAt.{escape_is}
use Rattle.jl_nquads.proofs.framed.read_characters.Goals as goal

-- what the look for an escape says
at_front : (frame : Frame) (letters : Bool) (rest text : List ℕ) (n : ℕ) (o : Option Escape) → rest ≡ drop n text → letters ≡ letters_of frame → o ≡ escape_first letters rest → EscapeAt (letters_of frame) (drop n text) o
at_front frame letters rest text n o r e i = subst (λ z. EscapeAt (letters_of frame) z o) r (subst (λ z. EscapeAt (letters_of frame) rest z) (sym (i ∙ ap (λ z. escape_first z rest) e)) (escape_is (letters_of frame) rest))

front : (frame : Frame) (close : ℕ) (rest text : List ℕ) (n k : ℕ) → rest ≡ drop n text → close ≡ close_of frame → IsPlainFront close rest k → IsPlainFront (close_of frame) (drop n text) k
front frame close rest text n k r e p = subst (λ z. IsPlainFront z (drop n text) k) e (subst (λ z. IsPlainFront close z k) r p)

-- a run of plain characters behind those that have been read
run : (frame : Frame) (close : ℕ) (rest text m new : List ℕ) (n k : ℕ) → rest ≡ drop n text → close ≡ close_of frame → HaveRead frame text m n → IsPlainFront close rest k → new ≡ m ++ take k rest → HaveRead frame text new (n + k)
run frame close rest text m new n k r e h p i = subst (λ z. HaveRead frame text z (n + k)) (sym (i ∙ ap (λ z. m ++ take k z) r)) (plain_more frame text m n k h (front frame close rest text n k r e p))

-- an escape behind it
escaped : (frame : Frame) (text mid new rest : List ℕ) (n : ℕ) (letters : Bool) (e : Escape) → rest ≡ drop n text → HaveRead frame text mid n → letters ≡ letters_of frame → Some e ≡ escape_first letters rest → new ≡ mid ++ encode e.code → HaveRead frame text new (n + e.len)
escaped frame text mid new rest n letters e r h l f o = subst (λ z. HaveRead frame text z (n + e.len)) (sym o) (escape_more frame text mid n e h (at_front frame letters rest text n (Some e) r l f))

pub rest_of-requires : goal.rest_of-requires
rest_of-requires c = read_within c.args.frame c.args.text.now c.characters.meaning c.characters.len c.characters.invariant

pub returns-in-None : goal.returns-in-None
returns-in-None c =
    all_read c.args.frame c.args.text.now c.add_plain.new.meaning c.characters.len c.in_ok-len.field-0
    (run c.args.frame c.close.result c.rest_of.result.now c.args.text.now c.characters.meaning c.add_plain.new.meaning c.characters.len c.in_ok-len.field-0 c.rest_of.ensures c.close.ensures c.characters.invariant c.in_ok-len.ensures.front c.in_ok-len.ensures.meaning)
    (front c.args.frame c.close.result c.rest_of.result.now c.args.text.now c.characters.len c.in_ok-len.field-0 c.rest_of.ensures c.close.ensures c.in_ok-len.ensures.front)
    (at_front c.args.frame c.has_letters.result c.rest_of-in-characters.result.now c.args.text.now (c.characters.len + c.in_ok-len.field-0) None c.rest_of-in-characters.ensures c.has_letters.ensures c.in-None.ensures)

pub push_code-requires : goal.push_code-requires
push_code-requires c =
    escape_scalar (letters_of c.args.frame) (drop (c.characters.len + c.in_ok-len.field-0) c.args.text.now) c.in-Some.escape
    (at_front c.args.frame c.has_letters.result c.rest_of-in-characters.result.now c.args.text.now (c.characters.len + c.in_ok-len.field-0) (Some c.in-Some.escape) c.rest_of-in-characters.ensures c.has_letters.ensures c.in-Some.ensures)

pub characters-preserved : goal.characters-preserved
characters-preserved c = escaped c.args.frame c.args.text.now c.add_plain.new.meaning c.push_code.new.meaning c.rest_of-in-characters.result.now (c.characters.len + c.in_ok-len.field-0) c.has_letters.result c.in-Some.escape c.rest_of-in-characters.ensures (run c.args.frame c.close.result c.rest_of.result.now c.args.text.now c.characters.meaning c.add_plain.new.meaning c.characters.len c.in_ok-len.field-0 c.rest_of.ensures c.close.ensures c.characters.invariant c.in_ok-len.ensures.front c.in_ok-len.ensures.meaning) c.has_letters.ensures c.in-Some.ensures c.in_ok-push_code-in-Some.ensures

pub overflow_add-len-in-Some : goal.overflow_add-len-in-Some
overflow_add-len-in-Some c =
    let within : c.characters.len + c.in_ok-len.field-0 + c.in-Some.escape.len ≤ length c.args.text.now = read_within c.args.frame c.args.text.now c.push_code.new.meaning (c.characters.len + c.in_ok-len.field-0 + c.in-Some.escape.len) (escaped c.args.frame c.args.text.now c.add_plain.new.meaning c.push_code.new.meaning c.rest_of-in-characters.result.now (c.characters.len + c.in_ok-len.field-0) c.has_letters.result c.in-Some.escape c.rest_of-in-characters.ensures (run c.args.frame c.close.result c.rest_of.result.now c.args.text.now c.characters.meaning c.add_plain.new.meaning c.characters.len c.in_ok-len.field-0 c.rest_of.ensures c.close.ensures c.characters.invariant c.in_ok-len.ensures.front c.in_ok-len.ensures.meaning) c.has_letters.ensures c.in-Some.ensures c.in_ok-push_code-in-Some.ensures) in
    omega (arith, within)

pub characters-smaller : goal.characters-smaller
characters-smaller c =
    let some : 0 < c.in-Some.escape.len = escape_some (letters_of c.args.frame) (drop (c.characters.len + c.in_ok-len.field-0) c.args.text.now) c.in-Some.escape (at_front c.args.frame c.has_letters.result c.rest_of-in-characters.result.now c.args.text.now (c.characters.len + c.in_ok-len.field-0) (Some c.in-Some.escape) c.rest_of-in-characters.ensures c.has_letters.ensures c.in-Some.ensures) in
    let within : c.characters.len + c.in_ok-len.field-0 + c.in-Some.escape.len ≤ length c.args.text.now = read_within c.args.frame c.args.text.now c.push_code.new.meaning (c.characters.len + c.in_ok-len.field-0 + c.in-Some.escape.len) (escaped c.args.frame c.args.text.now c.add_plain.new.meaning c.push_code.new.meaning c.rest_of-in-characters.result.now (c.characters.len + c.in_ok-len.field-0) c.has_letters.result c.in-Some.escape c.rest_of-in-characters.ensures (run c.args.frame c.close.result c.rest_of.result.now c.args.text.now c.characters.meaning c.add_plain.new.meaning c.characters.len c.in_ok-len.field-0 c.rest_of.ensures c.close.ensures c.characters.invariant c.in_ok-len.ensures.front c.in_ok-len.ensures.meaning) c.has_letters.ensures c.in-Some.ensures c.in_ok-push_code-in-Some.ensures) in
    omega (arith, some, within)
