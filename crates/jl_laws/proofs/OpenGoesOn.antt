-- What has been read by the first bytes of a text is a beginning of the tree that the text reads as.
use Rattle.std.proofs.Common.{◌≡◌, ℕ, ◌⊎◌, inl, inr, Bool, true, false, List, [], ◌∷◌, ◌++◌, refl, sym, ap, ◌∙◌, subst, arith}
use Rattle.jl_model.specs.declared.scalars.Scalar.{Scalar}
use Rattle.jl_model.specs.declared.scalars.Scalar.TheVariants.{Null, Bool as boolean, Number, Str}
use Rattle.jl_model.specs.declared.tokens.Token.{Token}
use Rattle.jl_model.specs.JsonTree.{Tree, scalar, array, object, Trees, no_item, item, Members, no_member, member}
use Rattle.jl_model.specs.JsonText.{Then, Sign, Blanks, Colon, BeginArray, EndArray, BeginObject, EndObject, KeyText, Inside, ValueText, ItemsText, MoreItems, MembersText, MoreMembers, depth_limit}
use Rattle.jl_defs.specs.Texts.{Text}
use Rattle.jl_defs.specs.Trees.{then_items, then_members, place_of}
use Rattle.jl_defs.specs.OpenTree.{First as FirstOfValue, quote, brace, bracket, sign, Open, unread, in_scalar, in_array, in_object, in_key, in_member, whole, IsUnread, NextItem, NextMember, IsScalarAt, Extends}
use Rattle.jl_defs.specs.OpenText.{Language, Either, Where, IsNotEmpty, Behind, FirstOf, BegunScalar, BegunKey, ItemsThen, MembersThen, OpenPair, OpenText, OpenDocument, Opens, ReadsAs}
use Rattle.jl_laws.proofs.SameScalars.{First, NumberByte, ScalarByte, scalar-first}
use Rattle.jl_laws.proofs.Meets.{Meet, Further, Starts, Solid, first-on, then-starts, sign-starts, key-starts, starts-on, clash, past-blanks, past-sign, regroup-right, inside-left, inside-right-then, solid-quote}
use Rattle.jl_laws.proofs.SameValues.{TreeByte, value-starts, value-solid, scalar-no-array, scalar-no-object, solid-byte, solid-58, solid-93, solid-125, past-to-value, value-same}
use Rattle.jl_laws.proofs.OpenParts.{blanks-stop, behind-closes, sign-open, key-open, to-value, heads-open, no-key-left, items-then, members-then}

-- ---- what has begun

-- the first byte of what has begun
abbrev FirstByte : FirstOfValue → ℕ → Type 0
FirstByte quote c = c ≡ 34
FirstByte sign c = NumberByte c ⊎ (c ≡ 110) ⊎ (c ≡ 116) ⊎ (c ≡ 102)
FirstByte brace c = ⊥
FirstByte bracket c = ⊥

first-byte : (v : Scalar) (first : FirstOfValue) (c : ℕ) → FirstOf v first → ScalarByte v c → FirstByte first c
first-byte (Str m) quote c f h = h
first-byte (Str m) sign c f h = absurd f
first-byte (Str m) brace c f h = absurd f
first-byte (Str m) bracket c f h = absurd f
first-byte Null sign c f h = inr (inl h)
first-byte Null quote c f h = absurd f
first-byte Null brace c f h = absurd f
first-byte Null bracket c f h = absurd f
first-byte (boolean true) sign c f h = inr (inr (inl h))
first-byte (boolean true) quote c f h = absurd f
first-byte (boolean true) brace c f h = absurd f
first-byte (boolean true) bracket c f h = absurd f
first-byte (boolean false) sign c f h = inr (inr (inr h))
first-byte (boolean false) quote c f h = absurd f
first-byte (boolean false) brace c f h = absurd f
first-byte (boolean false) bracket c f h = absurd f
first-byte (Number d) sign c f h = inl h
first-byte (Number d) quote c f h = absurd f
first-byte (Number d) brace c f h = absurd f
first-byte (Number d) bracket c f h = absurd f

-- the first byte of a text of which a part has been read
first-of-part : (P : ℕ → Type 0) (x y : List ℕ) → IsNotEmpty x → First P (x ++ y) → First P x
first-of-part P [] y n f = absurd n
first-of-part P (c ∷ x) y n f = f

begun-starts : (place : ℕ) (first : FirstOfValue) → Starts (FirstByte first) (BegunScalar place first)
begun-starts place first at us t h =
    first-on (ScalarByte h.value) (FirstByte first) t (λ c b. first-byte h.value first c h.first_is b)
    (first-of-part (ScalarByte h.value) t h.rest h.begun (scalar-first h.value (t ++ h.rest) h.spelled))

key-begun-starts : (o : Bool) (had : List (List ℕ)) (place : ℕ) → Starts (λ c. c ≡ 34) (BegunKey o had place)
key-begun-starts o had place at us t h =
    first-of-part (λ c. c ≡ 34) t h.rest h.begun (subst (First (λ c. c ≡ 34)) (sym h.spelled.1) refl)

byte-solid : (first : FirstOfValue) (c : ℕ) → FirstByte first c → Solid c
byte-solid quote c h b = grind arith
byte-solid sign c h b = grind arith
byte-solid brace c h b = h
byte-solid bracket c h b = h

byte-no-close : (first : FirstOfValue) (c : ℕ) → FirstByte first c → c ≡ 93 → ⊥
byte-no-close quote c h e = omega (arith, h, e)
byte-no-close sign c h e = grind arith
byte-no-close brace c h e = h
byte-no-close bracket c h e = h

-- a sign is no quote
sign-no-quote : (c : ℕ) → FirstByte sign c → c ≡ 34 → ⊥
sign-no-quote c h e = grind arith

no-opening : (first : FirstOfValue) (c : ℕ) → FirstByte first c → (c ≡ 91) ⊎ (c ≡ 123) → ⊥
no-opening quote c h e = grind arith
no-opening sign c h e = grind arith
no-opening brace c h e = h
no-opening bracket c h e = h

scalar-at : (place : ℕ) (first : FirstOfValue) (t : Tree) (c : ℕ) → FirstByte first c → TreeByte t c → place ≡ place_of t → IsScalarAt place first t
scalar-at place quote (scalar at (Str m)) c h k e = e
scalar-at place quote (scalar at Null) c h k e = omega (arith, h, k)
scalar-at place quote (scalar at (boolean true)) c h k e = omega (arith, h, k)
scalar-at place quote (scalar at (boolean false)) c h k e = omega (arith, h, k)
scalar-at place quote (scalar at (Number n)) c h k e = sign-no-quote c (inl k) h
scalar-at place quote (array at xs) c h k e = omega (arith, h, k)
scalar-at place quote (object at ms) c h k e = omega (arith, h, k)
scalar-at place sign (scalar at (Str m)) c h k e = sign-no-quote c h k
scalar-at place sign (scalar at Null) c h k e = e
scalar-at place sign (scalar at (boolean b)) c h k e = e
scalar-at place sign (scalar at (Number n)) c h k e = e
scalar-at place sign (array at xs) c h k e = no-opening sign c h (inl k)
scalar-at place sign (object at ms) c h k e = no-opening sign c h (inr k)
scalar-at place brace t c h k e = absurd h
scalar-at place bracket t c h k e = absurd h

value-place : (o : Bool) (room : ℕ) (t : Tree) (at : ℕ) (us : List Token) (x : List ℕ) → ValueText o room t at us x → place_of t ≡ at
value-place o room (scalar place v) at us x h = h.place_is
value-place o room (array place xs) at us x h = h.place_is
value-place o room (object place ms) at us x h = h.place_is

inside-starts : (room place b : ℕ) (f : ℕ → List Token) (W : ℕ → Language) → Starts (λ c. c ≡ b) (Inside room place (λ n. Then (Sign b f) (W n)))
inside-starts room place b f W at us t h = then-starts (λ c. c ≡ b) (Sign b f) (W h.left) (sign-starts b f) at us t h.spelled

solid-91 : Solid 91
solid-91 b = grind arith

solid-123 : Solid 123
solid-123 b = grind arith

-- nothing has been read of the next item
unread-next : (o : Open) (zs : Trees) → IsUnread o → NextItem o (Extends o) zs
unfolding Extends
unread-next unread no_item u = tt
unread-next unread (item x zs) u = tt
unread-next (in_scalar at first) zs u = absurd u
unread-next (in_array at xs next) zs u = absurd u
unread-next (in_object at ms ends) zs u = absurd u
unread-next (in_key at ms ends a) zs u = absurd u
unread-next (in_member at ms ends a n next) zs u = absurd u
unread-next (whole t) zs u = absurd u

module _ (o p : Bool) (rest : List ℕ) where
  -- a value that has begun doesn't go on as the end of an array
  no-begun-end : (P : ℕ → Type 0) (L M : Language) (at : ℕ) → ((c : ℕ) → P c → Solid c) → ((c : ℕ) → P c → c ≡ 93 → ⊥) → Starts P L → Meet (Then Blanks L) (Then (Then Blanks EndArray) M) rest at → ⊥
  no-begun-end P L M at f g s m =
      let h = heads-open o p rest P (λ c. c ≡ 93) L EndArray M at f (λ c e. solid-byte 93 c solid-93 e) s (sign-starts 93 _) m in
      g h.0 h.1 h.2

  no-open-end : (b : ℕ) (f : ℕ → List Token) (room place : ℕ) (W : ℕ → Language) (M : Language) (at : ℕ) → Solid b → (b ≡ 93 → ⊥) → Meet (Then Blanks (Inside room place (λ n. Then (Sign b f) (W n)))) (Then (Then Blanks EndArray) M) rest at → ⊥
  no-open-end b f room place W M at s d m =
      no-begun-end (λ c. c ≡ b) (Inside room place (λ n. Then (Sign b f) (W n))) M at (λ c e. solid-byte b c s e) (λ c e i. d (sym e ∙ i)) (inside-starts room place b f W) m

  next-ends : (room : ℕ) (next : Open) (M : Language) (at : ℕ) → Meet (OpenText o room next) (Then (Then Blanks EndArray) M) rest at → IsUnread next
  unfolding OpenText
  next-ends room unread M at m = tt
  next-ends room (in_scalar place first) M at m = absurd (no-begun-end (FirstByte first) (BegunScalar place first) M at (byte-solid first) (byte-no-close first) (begun-starts place first) m)
  next-ends room (in_array place xs next) M at m = absurd (no-open-end 91 _ room place _ M at solid-91 (λ e. omega (arith, e)) m)
  next-ends room (in_object place ms ends) M at m = absurd (no-open-end 123 _ room place _ M at solid-123 (λ e. omega (arith, e)) m)
  next-ends room (in_key place ms ends a) M at m = absurd (no-open-end 123 _ room place _ M at solid-123 (λ e. omega (arith, e)) m)
  next-ends room (in_member place ms ends a n next) M at m = absurd (no-open-end 123 _ room place _ M at solid-123 (λ e. omega (arith, e)) m)
  next-ends room (whole t) M at m = absurd m.left

  -- a scalar that is being read
  scalar-opened : (place : ℕ) (first : FirstOfValue) (t : Tree) (room : ℕ) (M : Language) (at : ℕ) → Meet (Then Blanks (BegunScalar place first)) (Then Blanks (Then (ValueText p room t) M)) rest at → IsScalarAt place first t
  scalar-opened place first t room M at m =
      let V = ValueText p room t in
      let a = past-blanks (BegunScalar place first) (Then V M) rest at (starts-on (FirstByte first) Solid (BegunScalar place first) (byte-solid first) (begun-starts place first)) (then-starts Solid V M (value-solid p room t)) m in
      let c = clash (FirstByte first) (TreeByte t) (BegunScalar place first) (Then V M) rest a.0 (begun-starts place first) (then-starts (TreeByte t) V M (value-starts p room t)) a.1 in
      scalar-at place first t c.0 c.1 c.2 (a.1.left.place_is ∙ sym (value-place p room t a.0 a.1.right.front_tokens a.1.right.front a.1.right.in_first))

  -- an open container against a value
  to-inside : (b : ℕ) (f : ℕ → List Token) (room place : ℕ) (W : ℕ → Language) (t : Tree) (room' : ℕ) (M : Language) (at : ℕ) → Solid b → Meet (Then Blanks (Inside room place (λ n. Then (Sign b f) (W n)))) (Then Blanks (Then (ValueText p room' t) M)) rest at →
      TreeByte t b × Further (Inside room place (λ n. Then (Sign b f) (W n))) (Then (ValueText p room' t) M) rest
  to-inside b f room place W t room' M at s m =
      let V = ValueText p room' t in
      let I = Inside room place (λ n. Then (Sign b f) (W n)) in
      let i = inside-starts room place b f W in
      let a = past-blanks I (Then V M) rest at (starts-on (λ c. c ≡ b) Solid I (λ c e. solid-byte b c s e) i) (then-starts Solid V M (value-solid p room' t)) m in
      let c = clash (λ c. c ≡ b) (TreeByte t) I (Then V M) rest a.0 i (then-starts (TreeByte t) V M (value-starts p room' t)) a.1 in
      (subst (TreeByte t) c.1 c.2, a)

  -- inside of both
  into-array : (room place : ℕ) (W : ℕ → Language) (room' b : ℕ) (ys : Trees) (M : Language) (at : ℕ) → Meet (Inside room place (λ n. Then BeginArray (W n))) (Then (ValueText p room' (array b ys)) M) rest at →
      (place ≡ b) × ((n : ℕ) × (n' : ℕ) × Further (W n) (Then (ItemsText p n' ys) M) rest)
  into-array room place W room' b ys M at m =
      let W' : ℕ → Language = λ n. Then BeginArray (ItemsText p n ys) in
      let a = inside-left room place (λ n. Then BeginArray (W n)) (Then (ValueText p room' (array b ys)) M) rest at m in
      let c = inside-right-then room' b W' (Then BeginArray (W a.1.0)) M rest at a.1.1 in
      let d = past-sign 91 91 _ _ (W a.1.0) (Then (ItemsText p c.1.0 ys) M) rest at (regroup-right (Then BeginArray (W a.1.0)) BeginArray (ItemsText p c.1.0 ys) M rest at c.1.1) in
      (a.0 ∙ sym c.0, (a.1.0, c.1.0, d.1))

  into-object : (room place : ℕ) (W : ℕ → Language) (room' b : ℕ) (ns : Members) (M : Language) (at : ℕ) → Meet (Inside room place (λ n. Then BeginObject (W n))) (Then (ValueText p room' (object b ns)) M) rest at →
      (place ≡ b) × ((n : ℕ) × (n' : ℕ) × Further (W n) (Then (MembersText p n' [] ns) M) rest)
  into-object room place W room' b ns M at m =
      let W' : ℕ → Language = λ n. Then BeginObject (MembersText p n [] ns) in
      let a = inside-left room place (λ n. Then BeginObject (W n)) (Then (ValueText p room' (object b ns)) M) rest at m in
      let c = inside-right-then room' b W' (Then BeginObject (W a.1.0)) M rest at a.1.1 in
      let d = past-sign 123 123 _ _ (W a.1.0) (Then (MembersText p c.1.0 [] ns) M) rest at (regroup-right (Then BeginObject (W a.1.0)) BeginObject (MembersText p c.1.0 [] ns) M rest at c.1.1) in
      (a.0 ∙ sym c.0, (a.1.0, c.1.0, d.1))

  -- a key that is being read
  key-opened : (had had' : List (List ℕ)) (key_at : ℕ) (zs : Members) (room : ℕ) (M : Language) (at : ℕ) → Meet (Then Blanks (BegunKey o had key_at)) (Then (MembersText p room had' zs) M) rest at → NextMember key_at zs
  key-opened had had' key_at no_member room M at m =
      let h = heads-open o p rest (λ c. c ≡ 34) (λ c. c ≡ 125) (BegunKey o had key_at) EndObject M at solid-quote (λ c e. solid-byte 125 c solid-125 e) (key-begun-starts o had key_at) (sign-starts 125 _) m in
      omega (arith, h.1, h.2)
  key-opened had had' key_at (member b n w ns) room M at m =
      let B = BegunKey o had key_at in
      let Q = KeyText p had' b n in
      let D = Then Blanks (Then Colon (Then Blanks (Then (ValueText p room w) (MoreMembers p room (n ∷ had') ns)))) in
      let a = past-blanks B (Then (Then Q D) M) rest at (starts-on (λ c. c ≡ 34) Solid B solid-quote (key-begun-starts o had key_at))
      (then-starts Solid (Then Q D) M (then-starts Solid Q D (starts-on (λ c. c ≡ 34) Solid Q solid-quote (key-starts p had' b n))))
      (regroup-right (Then Blanks B) Blanks (Then Q D) M rest at m) in
      a.1.left.place_is ∙ sym a.1.right.in_first.in_first.place_is

  -- the next item, where the open one goes on as it does
  next-opened : (next : Open) (room room' : ℕ) (M : Language) → ((t : Tree) (N : Language) (at : ℕ) → Meet (OpenText o room next) (Then Blanks (Then (ValueText p room' t) N)) rest at → Extends next t) →
      (zs : Trees) (at : ℕ) → Meet (OpenText o room next) (Then (ItemsText p room' zs) M) rest at → NextItem next (Extends next) zs
  next-opened next room room' M again no_item at m = next-ends room next M at m
  next-opened next room room' M again (item w ws) at m =
      let N = MoreItems p room' ws in
      again w (Then N M) at (to-value o p rest (OpenText o room next) (ValueText p room' w) N M at m)

  -- the open member
  abbrev NextPair : ℕ → Text → Open → Members → Type 0
  NextPair key_at name next zs = (v : Tree) × (others : Members) × (zs ≡ member key_at name v others) × Extends next v

  unread-extends : (next : Open) (v : Tree) → IsUnread next → Extends next v
  unread-extends next v u = unread-next next (item v no_item) u

  -- behind the key
  after-key : (next : Open) (room room' : ℕ) (w : Tree) (N M : Language) → ((t : Tree) (N : Language) (at : ℕ) → Meet (OpenText o room next) (Then Blanks (Then (ValueText p room' t) N)) rest at → Extends next t) →
      (at : ℕ) → Meet (Either (Where (IsUnread next) Blanks) (Then Blanks (Then Colon (OpenText o room next)))) (Then (Then Blanks (Then Colon (Then Blanks (Then (ValueText p room' w) N)))) M) rest at → Extends next w
  after-key next room room' w N M again at m = by m.left
    where
      by : Either (Where (IsUnread next) Blanks) (Then Blanks (Then Colon (OpenText o room next))) at m.us m.text → Extends next w
      by (inl h) = unread-extends next w h.0
      by (inr h) =
          let x = sign-open o p rest 58 58 _ _ (OpenText o room next) (Then Blanks (Then (ValueText p room' w) N)) M at solid-58 solid-58
          (record { us = m.us; vs = m.vs; text = m.text; whole = m.whole; goes_on = m.goes_on; left = h; right = m.right }) in
          again w (Then N M) x.1.0 (to-value o p rest (OpenText o room next) (ValueText p room' w) N M x.1.0 x.1.1)

  pair-opened : (next : Open) (key_at : ℕ) (name : Text) (room room' : ℕ) (M : Language) → ((t : Tree) (N : Language) (at : ℕ) → Meet (OpenText o room next) (Then Blanks (Then (ValueText p room' t) N)) rest at → Extends next t) →
      (had had' : List (List ℕ)) (zs : Members) (at : ℕ) → Meet (OpenPair o key_at name (IsUnread next) (OpenText o room next) had) (Then (MembersText p room' had' zs) M) rest at → NextPair key_at name next zs
  pair-opened next key_at name room room' M again had had' no_member at m =
      absurd (no-key-left o p rest had key_at name (Either (Where (IsUnread next) Blanks) (Then Blanks (Then Colon (OpenText o room next)))) M at m)
  pair-opened next key_at name room room' M again had had' (member b n w ns) at m =
      let A = Either (Where (IsUnread next) Blanks) (Then Blanks (Then Colon (OpenText o room next))) in
      let F = Then Blanks (Then (ValueText p room' w) (MoreMembers p room' (n ∷ had') ns)) in
      let k = key-open o p rest had had' key_at b name n A (Then Blanks (Then Colon F)) M at m in (
        w,
        ns,
        ap (λ z. member b z w ns) (sym k.1) ∙ ap (λ z. member z name w ns) (sym k.0),
        after-key next room room' w (MoreMembers p room' (n ∷ had') ns) M again k.2.0 k.2.1,
      )

  is-array : (t : Tree) → TreeByte t 91 → (b : ℕ) × (ys : Trees) × (t ≡ array b ys)
  is-array (scalar at v) h = absurd (scalar-no-array v 91 h refl)
  is-array (array at ys) h = (at, ys, refl)
  is-array (object at ms) h = absurd (let e : 91 ≡ 123 = h in omega (arith, e))

  is-object : (t : Tree) → TreeByte t 123 → (b : ℕ) × (ns : Members) × (t ≡ object b ns)
  is-object (scalar at v) h = absurd (scalar-no-object v 123 h refl)
  is-object (array at ys) h = absurd (let e : 123 ≡ 91 = h in omega (arith, e))
  is-object (object at ms) h = (at, ms, refl)

  array-is : (place b : ℕ) (t : Tree) (ys all : Trees) → t ≡ array b ys → place ≡ b → ys ≡ all → t ≡ array place all
  array-is place b t ys all e f g = cc

  object-is : (place b : ℕ) (t : Tree) (ns all : Members) → t ≡ object b ns → place ≡ b → ns ≡ all → t ≡ object place all
  object-is place b t ns all e f g = cc

  pair-is : (ms ns zs all : Members) → ns ≡ then_members ms zs → zs ≡ all → ns ≡ then_members ms all
  pair-is ms ns zs all e f = e ∙ ap (then_members ms) f

  -- what has been read of a value is a beginning of the value that the text goes on as
  opened : (x : Open) (t : Tree) (room room' : ℕ) (M : Language) (at : ℕ) → Meet (OpenText o room x) (Then Blanks (Then (ValueText p room' t) M)) rest at → Extends x t
  unfolding OpenText Extends
  opened unread t room room' M at m = tt
  opened (in_scalar place first) t room room' M at m = scalar-opened place first t room' M at m
  opened (in_array place xs next) t room room' M at m =
      let W : ℕ → Language = λ n. ItemsThen o n xs (IsUnread next) (OpenText o n next) in
      let a = to-inside 91 _ room place W t room' M at solid-91 m in
      let i = is-array t a.0 in
      let c = into-array room place W room' i.0 i.1 M a.1.0 (subst (λ z. Meet (Inside room place (λ n. Then BeginArray (W n))) (Then (ValueText p room' z) M) rest a.1.0) i.2 a.1.1) in
      let n = c.1.0 in
      let n' = c.1.1 in
      let r = items-then o p rest n n' (IsUnread next) (OpenText o n next) M (NextItem next (Extends next)) (λ u zs. unread-next next zs u)
      (λ zs at m. next-opened next n n' M (λ t N at m. opened next t n n' N at m) zs at m) xs i.1 c.1.2.0 c.1.2.1 in
      (r.0, array-is place i.0 t i.1 (then_items xs r.0) i.2 c.0 r.1, r.2)
  opened (in_object place ms ends) t room room' M at m =
      let W : ℕ → Language = λ n. MembersThen o n [] ms ends (Unit {0}) (λ had. Blanks) in
      let a = to-inside 123 _ room place W t room' M at solid-123 m in
      let i = is-object t a.0 in
      let c = into-object room place W room' i.0 i.1 M a.1.0 (subst (λ z. Meet (Inside room place (λ n. Then BeginObject (W n))) (Then (ValueText p room' z) M) rest a.1.0) i.2 a.1.1) in
      let r = members-then o p rest c.1.0 c.1.1 (Unit {0}) (λ had. Blanks) M (λ zs. Unit {0}) (λ u zs. tt) (λ had had' zs at m. tt) ms ends i.1 [] [] c.1.2.0 c.1.2.1 in
      (r.0, object-is place i.0 t i.1 (then_members ms r.0) i.2 c.0 r.1)
  opened (in_key place ms ends key_at) t room room' M at m =
      let K : List (List ℕ) → Language = λ had. Then Blanks (BegunKey o had key_at) in
      let W : ℕ → Language = λ n. MembersThen o n [] ms ends ⊥ K in
      let a = to-inside 123 _ room place W t room' M at solid-123 m in
      let i = is-object t a.0 in
      let c = into-object room place W room' i.0 i.1 M a.1.0 (subst (λ z. Meet (Inside room place (λ n. Then BeginObject (W n))) (Then (ValueText p room' z) M) rest a.1.0) i.2 a.1.1) in
      let r = members-then o p rest c.1.0 c.1.1 ⊥ K M (NextMember key_at) (λ u zs. absurd u) (λ had had' zs at m. key-opened had had' key_at zs c.1.1 M at m) ms ends i.1 [] [] c.1.2.0 c.1.2.1 in
      (r.0, object-is place i.0 t i.1 (then_members ms r.0) i.2 c.0 r.1, r.2)
  opened (in_member place ms ends key_at name next) t room room' M at m =
      let W : ℕ → Language = λ n. MembersThen o n [] ms ends ⊥ (OpenPair o key_at name (IsUnread next) (OpenText o n next)) in
      let a = to-inside 123 _ room place W t room' M at solid-123 m in
      let i = is-object t a.0 in
      let c = into-object room place W room' i.0 i.1 M a.1.0 (subst (λ z. Meet (Inside room place (λ n. Then BeginObject (W n))) (Then (ValueText p room' z) M) rest a.1.0) i.2 a.1.1) in
      let n = c.1.0 in
      let n' = c.1.1 in
      let r = members-then o p rest n n' ⊥ (OpenPair o key_at name (IsUnread next) (OpenText o n next)) M (NextPair key_at name next) (λ u zs. absurd u)
      (λ had had' zs at m. pair-opened next key_at name n n' M (λ t N at m. opened next t n n' N at m) had had' zs at m) ms ends i.1 [] [] c.1.2.0 c.1.2.1 in
      (r.2.0, r.2.1, object-is place i.0 t i.1 (then_members ms (member key_at name r.2.0 r.2.1)) i.2 c.0 (pair-is ms i.1 r.0 (member key_at name r.2.0 r.2.1) r.1 r.2.2), r.2.3)
  opened (whole v) t room room' M at m = absurd m.left

-- ---- documents

-- the whole value has been read
whole-goes-on : (p rest : List ℕ) (v t : Tree) → Opens p (whole v) → ReadsAs (p ++ rest) t → v ≡ t
whole-goes-on p rest v t (us, h) (vs, k) =
    let m : Meet (Then Blanks (Then (ValueText true depth_limit v) (Behind v Blanks))) (Then Blanks (Then (ValueText true depth_limit t) Blanks)) rest 0 =
    record { us = us; vs = vs; text = p; whole = p ++ rest; goes_on = refl; left = h; right = k } in
    let a = past-to-value true true rest depth_limit depth_limit v t (Behind v Blanks) Blanks 0 m in
    (value-same true true rest v t depth_limit depth_limit (Behind v Blanks) Blanks a.0 (behind-closes v Blanks blanks-stop) blanks-stop a.1).0

open-goes-on : (p rest : List ℕ) (o : Open) (t : Tree) → ((us : List Token) → OpenDocument true depth_limit o 0 us p → OpenText true depth_limit o 0 us p) → Opens p o → ReadsAs (p ++ rest) t → Extends o t
open-goes-on p rest o t f (us, h) (vs, k) =
    opened true true rest o t depth_limit depth_limit Blanks 0 (record { us = us; vs = vs; text = p; whole = p ++ rest; goes_on = refl; left = f us h; right = k })

-- what has been read by the first bytes is a beginning of each tree that all of them read as
pub goes-on : (p rest : List ℕ) (o : Open) (t : Tree) → Opens p o → ReadsAs (p ++ rest) t → Extends o t
unfolding Extends
goes-on p rest unread t h k = tt
goes-on p rest (in_scalar at first) t h k = open-goes-on p rest (in_scalar at first) t (λ us x. x) h k
goes-on p rest (in_array at xs next) t h k = open-goes-on p rest (in_array at xs next) t (λ us x. x) h k
goes-on p rest (in_object at ms ends) t h k = open-goes-on p rest (in_object at ms ends) t (λ us x. x) h k
goes-on p rest (in_key at ms ends a) t h k = open-goes-on p rest (in_key at ms ends a) t (λ us x. x) h k
goes-on p rest (in_member at ms ends a n next) t h k = open-goes-on p rest (in_member at ms ends a n next) t (λ us x. x) h k
goes-on p rest (whole v) t h k = whole-goes-on p rest v t h k
