-- Two values at the front of one text are the same.
use Rattle.std.proofs.Common.{◌≡◌, ℕ, ◌+◌, ◌⊎◌, inl, inr, Bool, true, false, List, [], ◌∷◌, ◌++◌, length, refl, sym, ap, ◌∙◌, subst, arith}
use Rattle.jl_model.specs.declared.scalars.Scalar.{Scalar}
use Rattle.jl_model.specs.declared.scalars.Scalar.TheVariants.{Null, Bool as boolean, Number, Str}
use Rattle.jl_model.specs.declared.tokens.Token.{Token}
use Rattle.jl_model.specs.JsonTree.{Tree, scalar, array, object, Trees, no_item, item, Members, no_member, member}
use Rattle.jl_model.specs.JsonText.{Then, Sign, Blanks, IsBlank, Comma, Colon, BeginArray, EndArray, BeginObject, EndObject, KeyText, ScalarText, ValueText, ItemsText, MoreItems, MembersText, MoreMembers}
use Rattle.jl_defs.specs.OpenText.{Language}
use Rattle.jl_laws.proofs.Begun.{Alike}
use Rattle.jl_laws.proofs.SameScalars.{Stop, Stops, StopsFor, First, ScalarByte, scalar-first, scalars-same}
use Rattle.jl_laws.proofs.Meets.{Meet, Further, Starts, Solid, then-starts, sign-starts, key-starts, starts-on, blanks-starts, clash, parted, behind, past-blanks, past-sign, past-key, blank-sign, solid-quote, regroup, heads, inside-left-then, inside-right-then}

-- ---- first bytes

abbrev pub TreeByte : Tree → ℕ → Type 0
TreeByte (scalar at v) c = ScalarByte v c
TreeByte (array at xs) c = c ≡ 91
TreeByte (object at ms) c = c ≡ 123

pub value-starts : (o : Bool) (room : ℕ) (v : Tree) → Starts (TreeByte v) (ValueText o room v)
value-starts o room (scalar at v) place us t h = scalar-first v t h.spelled
value-starts o room (array at xs) place us t h = then-starts (λ c. c ≡ 91) BeginArray (ItemsText o h.left xs) (sign-starts 91 _) place us t h.spelled
value-starts o room (object at ms) place us t h = then-starts (λ c. c ≡ 123) BeginObject (MembersText o h.left [] ms) (sign-starts 123 _) place us t h.spelled

-- a byte that begins no value: a blank or a bracket that closes
abbrev pub Outer : ℕ → Type 0
Outer c = IsBlank c ⊎ (c ≡ 93)

scalar-opens : (v : Scalar) (c : ℕ) → ScalarByte v c → Outer c → ⊥
scalar-opens Null c h s = grind arith
scalar-opens (boolean true) c h s = grind arith
scalar-opens (boolean false) c h s = grind arith
scalar-opens (Number n) c h s = grind arith
scalar-opens (Str n) c h s = grind arith

tree-opens : (v : Tree) (c : ℕ) → TreeByte v c → Outer c → ⊥
tree-opens (scalar at v) c h s = scalar-opens v c h s
tree-opens (array at xs) c h s = grind arith
tree-opens (object at ms) c h s = grind arith

pub tree-solid : (v : Tree) (c : ℕ) → TreeByte v c → Solid c
tree-solid v c h b = tree-opens v c h (inl b)

pub no-close : (v : Tree) (c : ℕ) → c ≡ 93 → TreeByte v c → ⊥
no-close v c e h = tree-opens v c h (inr e)

pub value-solid : (o : Bool) (room : ℕ) (v : Tree) → Starts Solid (ValueText o room v)
value-solid o room v = starts-on (TreeByte v) Solid (ValueText o room v) (tree-solid v) (value-starts o room v)

pub scalar-no-array : (v : Scalar) (c : ℕ) → ScalarByte v c → c ≡ 91 → ⊥
scalar-no-array Null c h s = omega (arith, h, s)
scalar-no-array (boolean true) c h s = omega (arith, h, s)
scalar-no-array (boolean false) c h s = omega (arith, h, s)
scalar-no-array (Number n) c (inl h) s = omega (arith, h, s)
scalar-no-array (Number n) c (inr h) s = omega (arith, h.1, s)
scalar-no-array (Str n) c h s = omega (arith, h, s)

pub scalar-no-object : (v : Scalar) (c : ℕ) → ScalarByte v c → c ≡ 123 → ⊥
scalar-no-object Null c h s = omega (arith, h, s)
scalar-no-object (boolean true) c h s = omega (arith, h, s)
scalar-no-object (boolean false) c h s = omega (arith, h, s)
scalar-no-object (Number n) c (inl h) s = omega (arith, h, s)
scalar-no-object (Number n) c (inr h) s = omega (arith, h.1, s)
scalar-no-object (Str n) c h s = omega (arith, h, s)

-- two values with one first byte are both scalars, arrays or objects
pub tree-alike : (c : ℕ) (v u : Tree) → TreeByte v c → TreeByte u c → Alike v u
tree-alike c (scalar at v) (scalar at' w) h k = tt
tree-alike c (scalar at v) (array at' ys) h k = scalar-no-array v c h k
tree-alike c (scalar at v) (object at' ns) h k = scalar-no-object v c h k
tree-alike c (array at xs) (scalar at' w) h k = scalar-no-array w c k h
tree-alike c (array at xs) (array at' ys) h k = tt
tree-alike c (array at xs) (object at' ns) h k = omega (arith, h, k)
tree-alike c (object at ms) (scalar at' w) h k = scalar-no-object w c k h
tree-alike c (object at ms) (array at' ys) h k = omega (arith, h, k)
tree-alike c (object at ms) (object at' ns) h k = tt

-- ---- what stands behind

-- a number is closed by the byte behind it
abbrev pub Closes : Tree → List ℕ → Type 0
Closes (scalar at (Number digits)) text = First Stop text
Closes v text = Unit {0}

abbrev pub CloseBy : Tree → Language → Type 0
CloseBy v L = (at : ℕ) (us : List Token) (t : List ℕ) → L at us t → Closes v t

abbrev pub Stopping : Language → Type 0
Stopping L = (at : ℕ) (us : List Token) (t : List ℕ) → L at us t → Stops t

stop-first : (t r : List ℕ) → First Stop t → Stops (t ++ r)
stop-first [] r f = absurd f
stop-first (c ∷ t) r f = f

stop-all : (t : List ℕ) → First Stop t → Stops t
stop-all [] f = tt
stop-all (c ∷ t) f = f

pub stopping : (L : Language) → Starts Stop L → Stopping L
stopping L f at us t h = stop-all t (f at us t h)

pub closes : (v : Tree) (t : List ℕ) → First Stop t → Closes v t
closes (scalar at Null) t f = tt
closes (scalar at (boolean b)) t f = tt
closes (scalar at (Number n)) t f = f
closes (scalar at (Str n)) t f = tt
closes (array at xs) t f = tt
closes (object at ms) t f = tt

pub close-by : (v : Tree) (L : Language) → Starts Stop L → CloseBy v L
close-by v L f at us t h = closes v t (f at us t h)

stops-for : (at : ℕ) (v : Scalar) (t r : List ℕ) → Closes (scalar at v) t → StopsFor v (t ++ r)
stops-for at Null t r f = tt
stops-for at (boolean b) t r f = tt
stops-for at (Number n) t r f = stop-first t r f
stops-for at (Str n) t r f = tt

-- behind blanks, a comma or the end of a container
sign-stops : (byte : ℕ) (made : ℕ → List Token) → Stop byte → Starts Stop (Sign byte made)
sign-stops byte made s = starts-on (λ c. c ≡ byte) Stop (Sign byte made) (λ c e. subst Stop (sym e) s) (sign-starts byte made)

pub blank-stops : (byte : ℕ) (made : ℕ → List Token) → Stop byte → Starts Stop (Then Blanks (Sign byte made))
blank-stops byte made s = blanks-starts Stop (Sign byte made) (λ c b. inl b) (sign-stops byte made s)

pub blank-stops-then : (byte : ℕ) (made : ℕ → List Token) (L : Language) → Stop byte → Starts Stop (Then Blanks (Then (Sign byte made) L))
blank-stops-then byte made L s = blanks-starts Stop (Then (Sign byte made) L) (λ c b. inl b) (then-starts Stop (Sign byte made) L (sign-stops byte made s))

more-items-stop : (o : Bool) (room : ℕ) (xs : Trees) → Starts Stop (MoreItems o room xs)
more-items-stop o room no_item = blank-stops 93 _ (inr (inr (inl refl)))
more-items-stop o room (item v xs) = blank-stops-then 44 _ (ItemsText o room (item v xs)) (inr (inl refl))

more-members-stop : (o : Bool) (room : ℕ) (had : List (List ℕ)) (ms : Members) → Starts Stop (MoreMembers o room had ms)
more-members-stop o room had no_member = blank-stops 125 _ (inr (inr (inr refl)))
more-members-stop o room had (member p n v ms) = blank-stops-then 44 _ (MembersText o room had (member p n v ms)) (inr (inl refl))

pub items-stop : (o : Bool) (room : ℕ) (xs : Trees) (L : Language) → Starts Stop (Then (MoreItems o room xs) L)
items-stop o room xs L = then-starts Stop (MoreItems o room xs) L (more-items-stop o room xs)

pub members-stop : (o : Bool) (room : ℕ) (had : List (List ℕ)) (ms : Members) (L : Language) → Starts Stop (Then (MoreMembers o room had ms) L)
members-stop o room had ms L = then-starts Stop (MoreMembers o room had ms) L (more-members-stop o room had ms)

pub solid-byte : (b c : ℕ) → Solid b → c ≡ b → Solid c
solid-byte b c s e = subst Solid (sym e) s

pub solid-44 : Solid 44
solid-44 b = grind arith

pub solid-58 : Solid 58
solid-58 b = grind arith

pub solid-93 : Solid 93
solid-93 b = grind arith

pub solid-125 : Solid 125
solid-125 b = grind arith

-- ---- one item, one member

module _ (o p : Bool) (rest : List ℕ) where
  scalar-same : (room place : ℕ) (v : Scalar) (room' place' : ℕ) (w : Scalar) (L M : Language) (at : ℕ) → CloseBy (scalar place v) L → Stopping M →
      Meet (Then (ValueText o room (scalar place v)) L) (Then (ValueText p room' (scalar place' w)) M) rest at → (scalar place v ≡ scalar place' w) × Further L M rest
  scalar-same room place v room' place' w L M at f g m =
      let A = ScalarText place v in
      let B = ScalarText place' w in
      let l = m.left in
      let r = m.right in
      let s = scalars-same v w l.front r.front (l.back ++ rest) r.back l.in_first.spelled r.in_first.spelled
      (stops-for place v l.back rest (f (at + length l.front) l.back_tokens l.back l.in_second))
      (g (at + length r.front) r.back_tokens r.back r.in_second)
      (parted A B L M rest at m) in
      (ap (λ z. scalar z v) (l.in_first.place_is ∙ sym r.in_first.place_is) ∙ ap (λ z. scalar place' z) s.0, (at + length l.front, behind A B L M rest at m s.1))

  -- the first bytes of two values
  values-alike : (room room' : ℕ) (v w : Tree) (L M : Language) (at : ℕ) → Meet (Then (ValueText o room v) L) (Then (ValueText p room' w) M) rest at → Alike v w
  values-alike room room' v w L M at m =
      let c = clash (TreeByte v) (TreeByte w) (Then (ValueText o room v) L) (Then (ValueText p room' w) M) rest at
      (then-starts (TreeByte v) (ValueText o room v) L (value-starts o room v)) (then-starts (TreeByte w) (ValueText p room' w) M (value-starts p room' w)) m in
      tree-alike c.0 v w c.1 c.2

  -- what stands inside of two arrays
  inside-arrays : (room room' place place' : ℕ) (xs ys : Trees) (L M : Language) (at : ℕ) → Meet (Then (ValueText o room (array place xs)) L) (Then (ValueText p room' (array place' ys)) M) rest at →
      (place ≡ place') × ((n : ℕ) × (n' : ℕ) × Further (Then (ItemsText o n xs) L) (Then (ItemsText p n' ys) M) rest)
  inside-arrays room room' place place' xs ys L M at m =
      let W : ℕ → Language = λ n. Then BeginArray (ItemsText o n xs) in
      let W' : ℕ → Language = λ n. Then BeginArray (ItemsText p n ys) in
      let a = inside-left-then room place W L (Then (ValueText p room' (array place' ys)) M) rest at m in
      let b = inside-right-then room' place' W' (Then (W a.1.0) L) M rest at a.1.1 in
      let c = past-sign 91 91 _ _ (Then (ItemsText o a.1.0 xs) L) (Then (ItemsText p b.1.0 ys) M) rest at
      (regroup BeginArray (ItemsText o a.1.0 xs) L BeginArray (ItemsText p b.1.0 ys) M rest at b.1.1) in
      (a.0 ∙ sym b.0, (a.1.0, b.1.0, c.1))

  inside-objects : (room room' place place' : ℕ) (ms ns : Members) (L M : Language) (at : ℕ) → Meet (Then (ValueText o room (object place ms)) L) (Then (ValueText p room' (object place' ns)) M) rest at →
      (place ≡ place') × ((n : ℕ) × (n' : ℕ) × Further (Then (MembersText o n [] ms) L) (Then (MembersText p n' [] ns) M) rest)
  inside-objects room room' place place' ms ns L M at m =
      let W : ℕ → Language = λ n. Then BeginObject (MembersText o n [] ms) in
      let W' : ℕ → Language = λ n. Then BeginObject (MembersText p n [] ns) in
      let a = inside-left-then room place W L (Then (ValueText p room' (object place' ns)) M) rest at m in
      let b = inside-right-then room' place' W' (Then (W a.1.0) L) M rest at a.1.1 in
      let c = past-sign 123 123 _ _ (Then (MembersText o a.1.0 [] ms) L) (Then (MembersText p b.1.0 [] ns) M) rest at
      (regroup BeginObject (MembersText o a.1.0 [] ms) L BeginObject (MembersText p b.1.0 [] ns) M rest at b.1.1) in
      (a.0 ∙ sym b.0, (a.1.0, b.1.0, c.1))

  -- the end of a container
  close-same : (b : ℕ) (f g : ℕ → List Token) (L M : Language) (at : ℕ) → Solid b → Meet (Then (Then Blanks (Sign b f)) L) (Then (Then Blanks (Sign b g)) M) rest at → Further L M rest
  close-same b f g L M at s m = (blank-sign b b f g L M rest at s s (regroup Blanks (Sign b f) L Blanks (Sign b g) M rest at m)).1

  -- the first bytes behind blanks, in front of others
  heads-then : (P Q : ℕ → Type 0) (A B L M : Language) (at : ℕ) → ((c : ℕ) → P c → Solid c) → ((c : ℕ) → Q c → Solid c) → Starts P A → Starts Q B →
      Meet (Then (Then Blanks A) L) (Then (Then Blanks B) M) rest at → (c : ℕ) × P c × Q c
  heads-then P Q A B L M at f g s t m =
      heads P Q (Then A L) (Then B M) rest at f g (then-starts P A L s) (then-starts Q B M t) (regroup Blanks A L Blanks B M rest at m)

  -- the comma between two items or members
  past-comma : (A B L M : Language) (at : ℕ) → Meet (Then (Then Blanks (Then Comma A)) L) (Then (Then Blanks (Then Comma B)) M) rest at → Further (Then A L) (Then B M) rest
  past-comma A B L M at m =
      let s = λ (N : Language). starts-on (λ c. c ≡ 44) Solid (Then Comma N) (λ c e. solid-byte 44 c solid-44 e) (then-starts (λ c. c ≡ 44) Comma N (sign-starts 44 _)) in
      let a = past-blanks (Then (Then Comma A) L) (Then (Then Comma B) M) rest at (then-starts Solid (Then Comma A) L (s A)) (then-starts Solid (Then Comma B) M (s B))
      (regroup Blanks (Then Comma A) L Blanks (Then Comma B) M rest at m) in
      (past-sign 44 44 _ _ (Then A L) (Then B M) rest a.0 (regroup Comma A L Comma B M rest a.0 a.1)).1

  -- a value behind blanks
  pub past-to-value : (room room' : ℕ) (v w : Tree) (L M : Language) (at : ℕ) → Meet (Then Blanks (Then (ValueText o room v) L)) (Then Blanks (Then (ValueText p room' w) M)) rest at →
      Further (Then (ValueText o room v) L) (Then (ValueText p room' w) M) rest
  past-to-value room room' v w L M at m =
      past-blanks (Then (ValueText o room v) L) (Then (ValueText p room' w) M) rest at
      (then-starts Solid (ValueText o room v) L (value-solid o room v)) (then-starts Solid (ValueText p room' w) M (value-solid p room' w)) m

  past-to-item : (room room' : ℕ) (v w : Tree) (xs ys : Trees) (L M : Language) (at : ℕ) → Meet (Then (ItemsText o room (item v xs)) L) (Then (ItemsText p room' (item w ys)) M) rest at →
      Further (Then (ValueText o room v) (Then (MoreItems o room xs) L)) (Then (ValueText p room' w) (Then (MoreItems p room' ys) M)) rest
  past-to-item room room' v w xs ys L M at m =
      let A = ValueText o room v in
      let B = ValueText p room' w in
      let K = MoreItems o room xs in
      let N = MoreItems p room' ys in
      let a = past-blanks (Then (Then A K) L) (Then (Then B N) M) rest at
      (then-starts Solid (Then A K) L (then-starts Solid A K (value-solid o room v))) (then-starts Solid (Then B N) M (then-starts Solid B N (value-solid p room' w)))
      (regroup Blanks (Then A K) L Blanks (Then B N) M rest at m) in
      (a.0, regroup A K L B N M rest a.0 a.1)

  -- the place and the name of a member, and then its value
  past-to-member : (room room' : ℕ) (had had' : List (List ℕ)) (place place' : ℕ) (n n' : List ℕ) (v w : Tree) (ms ns : Members) (L M : Language) (at : ℕ) →
      Meet (Then (MembersText o room had (member place n v ms)) L) (Then (MembersText p room' had' (member place' n' w ns)) M) rest at →
      (place ≡ place') × (n ≡ n') × Further (Then (ValueText o room v) (Then (MoreMembers o room (n ∷ had) ms) L)) (Then (ValueText p room' w) (Then (MoreMembers p room' (n' ∷ had') ns) M)) rest
  past-to-member room room' had had' place place' n n' v w ms ns L M at m =
      let Q = KeyText o had place n in
      let Q' = KeyText p had' place' n' in
      let A = ValueText o room v in
      let B = ValueText p room' w in
      let K = MoreMembers o room (n ∷ had) ms in
      let N = MoreMembers p room' (n' ∷ had') ns in
      let C = Then Blanks (Then Colon (Then Blanks (Then A K))) in
      let D = Then Blanks (Then Colon (Then Blanks (Then B N))) in
      let a = past-blanks (Then (Then Q C) L) (Then (Then Q' D) M) rest at
      (then-starts Solid (Then Q C) L (then-starts Solid Q C (starts-on (λ c. c ≡ 34) Solid Q solid-quote (key-starts o had place n))))
      (then-starts Solid (Then Q' D) M (then-starts Solid Q' D (starts-on (λ c. c ≡ 34) Solid Q' solid-quote (key-starts p had' place' n'))))
      (regroup Blanks (Then Q C) L Blanks (Then Q' D) M rest at m) in
      let b = past-key o p had had' place place' n n' (Then C L) (Then D M) rest a.0 (regroup Q C L Q' D M rest a.0 a.1) in
      let s = λ (X : Language). starts-on (λ c. c ≡ 58) Solid (Then Colon X) (λ c e. solid-byte 58 c solid-58 e) (then-starts (λ c. c ≡ 58) Colon X (sign-starts 58 _)) in
      let E = Then Blanks (Then A K) in
      let F = Then Blanks (Then B N) in
      let c = past-blanks (Then (Then Colon E) L) (Then (Then Colon F) M) rest b.2.0 (then-starts Solid (Then Colon E) L (s E)) (then-starts Solid (Then Colon F) M (s F))
      (regroup Blanks (Then Colon E) L Blanks (Then Colon F) M rest b.2.0 b.2.1) in
      let d = (past-sign 58 58 _ _ (Then E L) (Then F M) rest c.0 (regroup Colon E L Colon F M rest c.0 c.1)).1 in
      let e = past-blanks (Then (Then A K) L) (Then (Then B N) M) rest d.0
      (then-starts Solid (Then A K) L (then-starts Solid A K (value-solid o room v))) (then-starts Solid (Then B N) M (then-starts Solid B N (value-solid p room' w)))
      (regroup Blanks (Then A K) L Blanks (Then B N) M rest d.0 d.1) in
      (b.0, b.1, (e.0, regroup A K L B N M rest e.0 e.1))

  same-member : (place place' : ℕ) (n n' : List ℕ) (v w : Tree) (ms ns : Members) → place ≡ place' → n ≡ n' → v ≡ w → ms ≡ ns → member place n v ms ≡ member place' n' w ns
  same-member place place' n n' v w ms ns a b c d = cc

  -- an end is no comma, and begins no item and no member
  no-item-end : (room : ℕ) (w : Tree) (ys : Trees) (L M : Language) (at : ℕ) → Meet (Then (Then Blanks EndArray) L) (Then (ItemsText p room (item w ys)) M) rest at → ⊥
  no-item-end room w ys L M at m =
      let h = heads-then (λ c. c ≡ 93) (TreeByte w) EndArray (Then (ValueText p room w) (MoreItems p room ys)) L M at (λ c e. solid-byte 93 c solid-93 e) (tree-solid w)
      (sign-starts 93 _) (then-starts (TreeByte w) (ValueText p room w) (MoreItems p room ys) (value-starts p room w)) m in
      no-close w h.0 h.1 h.2

  no-end-item : (room : ℕ) (v : Tree) (xs : Trees) (L M : Language) (at : ℕ) → Meet (Then (ItemsText o room (item v xs)) L) (Then (Then Blanks EndArray) M) rest at → ⊥
  no-end-item room v xs L M at m =
      let h = heads-then (TreeByte v) (λ c. c ≡ 93) (Then (ValueText o room v) (MoreItems o room xs)) EndArray L M at (tree-solid v) (λ c e. solid-byte 93 c solid-93 e)
      (then-starts (TreeByte v) (ValueText o room v) (MoreItems o room xs) (value-starts o room v)) (sign-starts 93 _) m in
      no-close v h.0 h.2 h.1

  -- two bytes behind blanks
  same-bytes : (b c : ℕ) (A B L M : Language) (at : ℕ) → Solid b → Solid c → Starts (λ x. x ≡ b) A → Starts (λ x. x ≡ c) B → Meet (Then (Then Blanks A) L) (Then (Then Blanks B) M) rest at → b ≡ c
  same-bytes b c A B L M at s t f g m =
      let h = heads-then (λ x. x ≡ b) (λ x. x ≡ c) A B L M at (λ x e. solid-byte b x s e) (λ x e. solid-byte c x t e) f g m in
      sym h.1 ∙ h.2

  pub comma-starts : (A : Language) → Starts (λ c. c ≡ 44) (Then Comma A)
  comma-starts A = then-starts (λ c. c ≡ 44) Comma A (sign-starts 44 _)

  pub key-then-starts : (q : Bool) (had : List (List ℕ)) (place : ℕ) (n : List ℕ) (A : Language) → Starts (λ c. c ≡ 34) (Then (KeyText q had place n) A)
  key-then-starts q had place n A = then-starts (λ c. c ≡ 34) (KeyText q had place n) A (key-starts q had place n)

  pub solid-34 : Solid 34
  solid-34 b = grind arith

  -- ---- whole values

  mutual
    pub value-same : (v w : Tree) (room room' : ℕ) (L M : Language) (at : ℕ) → CloseBy v L → Stopping M → Meet (Then (ValueText o room v) L) (Then (ValueText p room' w) M) rest at → (v ≡ w) × Further L M rest
    value-same (scalar a v) (scalar b w) room room' L M at f g m = scalar-same room a v room' b w L M at f g m
    value-same (scalar a v) (array b ys) room room' L M at f g m = absurd (values-alike room room' (scalar a v) (array b ys) L M at m)
    value-same (scalar a v) (object b ns) room room' L M at f g m = absurd (values-alike room room' (scalar a v) (object b ns) L M at m)
    value-same (array a xs) (scalar b w) room room' L M at f g m = absurd (values-alike room room' (array a xs) (scalar b w) L M at m)
    value-same (array a xs) (array b ys) room room' L M at f g m =
        let i = inside-arrays room room' a b xs ys L M at m in
        let s = items-same xs ys i.1.0 i.1.1 L M i.1.2.0 i.1.2.1 in
        (ap (λ z. array z xs) i.0 ∙ ap (λ z. array b z) s.0, s.1)
    value-same (array a xs) (object b ns) room room' L M at f g m = absurd (values-alike room room' (array a xs) (object b ns) L M at m)
    value-same (object a ms) (scalar b w) room room' L M at f g m = absurd (values-alike room room' (object a ms) (scalar b w) L M at m)
    value-same (object a ms) (array b ys) room room' L M at f g m = absurd (values-alike room room' (object a ms) (array b ys) L M at m)
    value-same (object a ms) (object b ns) room room' L M at f g m =
        let i = inside-objects room room' a b ms ns L M at m in
        let s = members-same ms ns i.1.0 i.1.1 [] [] L M i.1.2.0 i.1.2.1 in
        (ap (λ z. object z ms) i.0 ∙ ap (λ z. object b z) s.0, s.1)

    items-same : (xs ys : Trees) (room room' : ℕ) (L M : Language) (at : ℕ) → Meet (Then (ItemsText o room xs) L) (Then (ItemsText p room' ys) M) rest at → (xs ≡ ys) × Further L M rest
    items-same no_item no_item room room' L M at m = (refl, close-same 93 _ _ L M at solid-93 m)
    items-same no_item (item w ys) room room' L M at m = absurd (no-item-end room' w ys L M at m)
    items-same (item v xs) no_item room room' L M at m = absurd (no-end-item room v xs L M at m)
    items-same (item v xs) (item w ys) room room' L M at m =
        let a = past-to-item room room' v w xs ys L M at m in
        let K = Then (MoreItems o room xs) L in
        let N = Then (MoreItems p room' ys) M in
        let b = value-same v w room room' K N a.0 (close-by v K (items-stop o room xs L)) (stopping N (items-stop p room' ys M)) a.1 in
        let c = more-same xs ys room room' L M b.1.0 b.1.1 in
        (ap (λ z. item z xs) b.0 ∙ ap (λ z. item w z) c.0, c.1)

    more-same : (xs ys : Trees) (room room' : ℕ) (L M : Language) (at : ℕ) → Meet (Then (MoreItems o room xs) L) (Then (MoreItems p room' ys) M) rest at → (xs ≡ ys) × Further L M rest
    more-same no_item no_item room room' L M at m = (refl, close-same 93 _ _ L M at solid-93 m)
    more-same no_item (item w ys) room room' L M at m =
        absurd (let e : 93 ≡ 44 = same-bytes 93 44 EndArray (Then Comma (ItemsText p room' (item w ys))) L M at solid-93 solid-44 (sign-starts 93 _) (comma-starts (ItemsText p room' (item w ys))) m in omega (arith, e))
    more-same (item v xs) no_item room room' L M at m =
        absurd (let e : 44 ≡ 93 = same-bytes 44 93 (Then Comma (ItemsText o room (item v xs))) EndArray L M at solid-44 solid-93 (comma-starts (ItemsText o room (item v xs))) (sign-starts 93 _) m in omega (arith, e))
    more-same (item v xs) (item w ys) room room' L M at m =
        let d = past-comma (ItemsText o room (item v xs)) (ItemsText p room' (item w ys)) L M at m in
        let a = past-to-item room room' v w xs ys L M d.0 d.1 in
        let K = Then (MoreItems o room xs) L in
        let N = Then (MoreItems p room' ys) M in
        let b = value-same v w room room' K N a.0 (close-by v K (items-stop o room xs L)) (stopping N (items-stop p room' ys M)) a.1 in
        let c = more-same xs ys room room' L M b.1.0 b.1.1 in
        (ap (λ z. item z xs) b.0 ∙ ap (λ z. item w z) c.0, c.1)

    members-same : (ms ns : Members) (room room' : ℕ) (had had' : List (List ℕ)) (L M : Language) (at : ℕ) → Meet (Then (MembersText o room had ms) L) (Then (MembersText p room' had' ns) M) rest at → (ms ≡ ns) × Further L M rest
    members-same no_member no_member room room' had had' L M at m = (refl, close-same 125 _ _ L M at solid-125 m)
    members-same no_member (member b n w ns) room room' had had' L M at m =
        absurd (let e : 125 ≡ 34 = same-bytes 125 34 EndObject _ L M at solid-125 solid-34 (sign-starts 125 _) (key-then-starts p had' b n _) m in omega (arith, e))
    members-same (member a n v ms) no_member room room' had had' L M at m =
        absurd (let e : 34 ≡ 125 = same-bytes 34 125 _ EndObject L M at solid-34 solid-125 (key-then-starts o had a n _) (sign-starts 125 _) m in omega (arith, e))
    members-same (member a n v ms) (member b n' w ns) room room' had had' L M at m =
        let d = past-to-member room room' had had' a b n n' v w ms ns L M at m in
        let K = Then (MoreMembers o room (n ∷ had) ms) L in
        let N = Then (MoreMembers p room' (n' ∷ had') ns) M in
        let b' = value-same v w room room' K N d.2.0 (close-by v K (members-stop o room (n ∷ had) ms L)) (stopping N (members-stop p room' (n' ∷ had') ns M)) d.2.1 in
        let c = more-members-same ms ns room room' (n ∷ had) (n' ∷ had') L M b'.1.0 b'.1.1 in
        (same-member a b n n' v w ms ns d.0 d.1 b'.0 c.0, c.1)

    more-members-same : (ms ns : Members) (room room' : ℕ) (had had' : List (List ℕ)) (L M : Language) (at : ℕ) → Meet (Then (MoreMembers o room had ms) L) (Then (MoreMembers p room' had' ns) M) rest at → (ms ≡ ns) × Further L M rest
    more-members-same no_member no_member room room' had had' L M at m = (refl, close-same 125 _ _ L M at solid-125 m)
    more-members-same no_member (member b n w ns) room room' had had' L M at m =
        absurd (let e : 125 ≡ 44 = same-bytes 125 44 EndObject _ L M at solid-125 solid-44 (sign-starts 125 _) (comma-starts _) m in omega (arith, e))
    more-members-same (member a n v ms) no_member room room' had had' L M at m =
        absurd (let e : 44 ≡ 125 = same-bytes 44 125 _ EndObject L M at solid-44 solid-125 (comma-starts _) (sign-starts 125 _) m in omega (arith, e))
    more-members-same (member a n v ms) (member b n' w ns) room room' had had' L M at m =
        let q = past-comma (MembersText o room had (member a n v ms)) (MembersText p room' had' (member b n' w ns)) L M at m in
        let d = past-to-member room room' had had' a b n n' v w ms ns L M q.0 q.1 in
        let K = Then (MoreMembers o room (n ∷ had) ms) L in
        let N = Then (MoreMembers p room' (n' ∷ had') ns) M in
        let b' = value-same v w room room' K N d.2.0 (close-by v K (members-stop o room (n ∷ had) ms L)) (stopping N (members-stop p room' (n' ∷ had') ns M)) d.2.1 in
        let c = more-members-same ms ns room room' (n ∷ had) (n' ∷ had') L M b'.1.0 b'.1.1 in
        (same-member a b n n' v w ms ns d.0 d.1 b'.0 c.0, c.1)
