-- The text behind one quad more, and the whole text.
use Rattle.std.proofs.Common.{◌≡◌, ℕ, ◌<◌, List, [], ◌∷◌, ◌++◌, Option, Some, None, refl, sym, ap, ◌∙◌, subst, append_assoc, append-nil, codes, length, arith}
use Rattle.jl_model.specs.Parts.{Parts}
use Rattle.jl_io.specs.Outside.{appended}
use Rattle.jl_io.specs.Puts.{PutsFront}
use Rattle.jl_io.proofs.Fronts.{put_then, cut_then, cut_first, appended-nil}
use Rattle.jl_defs.specs.WriterText as text
use Rattle.jl_defs.specs.WriterText.{OpenNode, open_text, closing_text, writer_text, text_behind, added, opened, next_of, begins_node, item_text, node_end, item_end, Next, same_predicate, new_predicate, new_node, new_item, node_text, member_text, value_text, between_nodes}
use Rattle.jl_writer.specs.Writing.{node_behind}
use Rattle.jl_writer.specs.Steps.{added_text, node_after, closing, end_before, begun, IsStep, ended, next_word}
use Rattle.jl_writer.specs.declared.next.Step.{Step}
use Rattle.jl_writer.specs.declared.next.Step.TheVariants.{Value, Member, Node, Item}

behind-text : (n : OpenNode) (qs : List Parts) (q : Parts) → text_behind n (qs ++ q ∷ []) ≡ text_behind n qs ++ added (text.node_behind n qs) q (next_of (text.node_behind n qs) q)
unfolding text_behind text.node_behind
behind-text n [] q = append-nil (added n q (next_of n q))
behind-text n (p ∷ ps) q =
    ap (λ t. added n p (next_of n p) ++ t) (behind-text (opened n p (next_of n p)) ps q)
    ∙ sym (append_assoc (added n p (next_of n p)) (text_behind (opened n p (next_of n p)) ps) _)

behind-node : (n : OpenNode) (qs : List Parts) (q : Parts) → text.node_behind n (qs ++ q ∷ []) ≡ opened (text.node_behind n qs) q (next_of (text.node_behind n qs) q)
unfolding text.node_behind
behind-node n [] q = refl
behind-node n (p ∷ ps) q = behind-node (opened n p (next_of n p)) ps q

-- the open text of one quad more
pub open_more : (qs : List Parts) (q : Parts) → open_text (qs ++ q ∷ []) ≡ open_text qs ++ added_text (node_behind qs) q
unfolding text_behind
open_more [] q = ap (λ t. 91 ∷ t) (append-nil (item_text q))
open_more (p ∷ ps) q =
    ap (λ t. codes "[" ++ item_text p ++ t) (behind-text (begins_node p) ps q)
    ∙ sym (append_assoc (codes "[" ++ item_text p) (text_behind (begins_node p) ps) _)

-- the node that is then open
pub node_more : (qs : List Parts) (q : Parts) → node_behind (qs ++ q ∷ []) ≡ Some (node_after (node_behind qs) q)
unfolding text.node_behind
node_more [] q = refl
node_more (p ∷ ps) q = ap Some (behind-node (begins_node p) ps q)

-- what closes the text hangs on the node that is open
pub closing_is : (qs : List Parts) → closing (node_behind qs) ≡ closing_text qs
closing_is [] = refl
closing_is (q ∷ qs) = refl

pub whole_text : (qs : List Parts) → open_text qs ++ closing (node_behind qs) ≡ writer_text qs
unfolding writer_text
whole_text qs = ap (λ t. open_text qs ++ t) (closing_is qs)

-- a quad adds something
pub added_some : (n : Option OpenNode) (q : Parts) → 0 < length (added_text n q)
added_some None q = omega arith
added_some (Some n) q = some_next (next_of n q)
  where
    some_next : (next : Next) → 0 < length (added n q next)
    some_next same_predicate = omega arith
    some_next new_predicate = omega arith
    some_next new_node = omega arith
    some_next new_item = omega arith

-- what stands before, and what the quad begins
pub step_text : (n : Option OpenNode) (q : Parts) (step : Step) → IsStep n q step → end_before n step ++ begun q step ≡ added_text n q
step_text None q step h = subst (λ s. codes "[" ++ begun q s ≡ codes "[" ++ item_text q) (sym h) refl
step_text (Some n) q step h = by step ∙ ap (added n q) h
  where
    by : (s : Step) → ended n.graph s ++ begun q s ≡ added n q (next_word s)
    by Value = refl
    by Member = refl
    by Node = refl
    by Item = refl

-- nothing of a text was put
pub nothing_put : (told : Option (List ℕ)) (t : List ℕ) → 0 < length t → PutsFront told t told
nothing_put told t some = record { front = []; back = t; text_is = refl; some_left = some; put = sym (appended-nil told) }

-- the text was closed
pub text_closed : (before w0 w1 : Option (List ℕ)) (qs : List Parts) (n : Option OpenNode) (end : List ℕ)
    → w0 ≡ appended before (open_text qs) → n ≡ node_behind qs → end ≡ closing n → w1 ≡ appended w0 end → w1 ≡ appended before (writer_text qs)
text_closed before w0 w1 qs n end put node is h =
    put_then before w0 w1 (open_text qs) end put h ∙ ap (λ t. appended before t) (ap (λ t. open_text qs ++ t) (is ∙ ap closing node) ∙ whole_text qs)

-- what closes the text was cut
pub closing_cut : (before w0 w1 : Option (List ℕ)) (qs : List Parts) (n : Option OpenNode) (end : List ℕ)
    → w0 ≡ appended before (open_text qs) → n ≡ node_behind qs → end ≡ closing n → PutsFront w0 end w1 → PutsFront before (writer_text qs) w1
closing_cut before w0 w1 qs n end put node is h =
    subst (λ t. PutsFront before t w1) (ap (λ t. open_text qs ++ t) (is ∙ ap closing node) ∙ whole_text qs) (cut_then before w0 w1 (open_text qs) end put h)

-- a quad was added
pub quad_added : (before w0 w1 : Option (List ℕ)) (qs : List Parts) (q : Parts) (n : Option OpenNode)
    → w0 ≡ appended before (open_text qs) → n ≡ node_behind qs → w1 ≡ appended w0 (added_text n q) → w1 ≡ appended before (open_text (qs ++ q ∷ []))
quad_added before w0 w1 qs q n put node h =
    put_then before w0 w1 (open_text qs) (added_text n q) put h ∙ ap (λ t. appended before t) (ap (λ m. open_text qs ++ added_text m q) node ∙ sym (open_more qs q))

-- a quad was cut
pub quad_cut : (before w0 w1 : Option (List ℕ)) (qs : List Parts) (q : Parts) (n : Option OpenNode)
    → w0 ≡ appended before (open_text qs) → n ≡ node_behind qs → PutsFront w0 (added_text n q) w1 → PutsFront before (writer_text (qs ++ q ∷ [])) w1
quad_cut before w0 w1 qs q n put node h =
    let opened = ap (λ m. open_text qs ++ added_text m q) node ∙ sym (open_more qs q) in
    let cut = subst (λ t. PutsFront before t w1) opened (cut_then before w0 w1 (open_text qs) (added_text n q) put h) in
    subst (λ t. PutsFront before t w1) (whole_text (qs ++ q ∷ [])) (cut_first before w1 (open_text (qs ++ q ∷ [])) (closing (node_behind (qs ++ q ∷ []))) cut)
