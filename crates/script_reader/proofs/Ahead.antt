-- Whatever the order in which lines go, what went in one order has also gone in another after which no node can go on.
use Rattle.std.proofs.Common.{◌≡◌, ℕ, List, [], ◌∷◌, ◌++◌, length, filter, Bool, true, false, not, cond, ◌||◌, inl, inr, refl, sym, ap, ◌∙◌, arith, append-nil, length-append}
use Rattle.std.specs.List.{AllByRecursion}
use Rattle.std.proofs.lemmas.Bool.{and_parts, or_left, or_right, or_cases, eq-eqb}
use Rattle.std.proofs.lemmas.List.Folds.{list_any-append}
use Rattle.base_types.specs.Name.{same_name, is_among}
use Rattle.base_types.specs.declared.ids.Node.{Node}
use Rattle.base_types.specs.declared.ids.Node.TheVariants.{Host, Server}
use Rattle.script_lines.specs.Sound.{same_node, is_of}
use Rattle.script_lines.specs.declared.script.Line.{Line}
use Rattle.script_lines.specs.declared.script.Deed.{Deed}
use Rattle.script_lines.specs.declared.script.Deed.TheVariants.{Call, Raise, Await, Stop, Restart}
use Rattle.script_reader.specs.Walk.{can_go}
use Rattle.script_reader.specs.Orders.{flags_after, flags_from, flags_of, flags_met, IsBegun, IsOrder, stands}
use Rattle.script_reader.specs.Laws.{OrdersLeaveTheSame}

-- a node is itself
pub same_itself : (node : Node) → same_node node node ≡ true
same_itself (Host a) = eq-eqb a.0 a.0 refl
same_itself (Server a) = eq-eqb a.0 a.0 refl

-- flags that are among these stay among them
abbrev pub Within : List (List ℕ) → List (List ℕ) → Type 0
Within flags more = (flag : List ℕ) → is_among flags flag ≡ true → is_among more flag ≡ true

pub within_push : (flags : List (List ℕ)) (flag : List ℕ) → Within flags (flags ++ flag ∷ [])
within_push flags flag other h = rw (list_any-append (λ f. same_name f other) flags (flag ∷ [])) (or_left (is_among flags other) _ h)

pub within_after : (flags : List (List ℕ)) (deed : Deed) → Within flags (flags_after flags deed)
within_after flags (Raise flag) = within_push flags flag
within_after flags (Call call) = λ flag h. h
within_after flags (Await flag) = λ flag h. h
within_after flags Stop = λ flag h. h
within_after flags Restart = λ flag h. h

pub within_from : (flags : List (List ℕ)) (lines : List Line) → Within flags (flags_from flags lines)
within_from flags [] = λ flag h. h
within_from flags (line ∷ lines) = λ flag h. within_from (flags_after flags line.deed) lines flag (within_after flags line.deed flag h)

-- the flag of a deed that raises one is among these
abbrev pub IsRaised : List (List ℕ) → Deed → Type 0
IsRaised flags (Raise flag) = (other : List ℕ) → same_name flag other ≡ true → is_among flags other ≡ true
IsRaised flags _ = Unit {0}

pub raised_after : (flags : List (List ℕ)) (deed : Deed) → IsRaised (flags_after flags deed) deed
raised_after flags (Raise flag) = λ other h. rw (list_any-append (λ f. same_name f other) flags (flag ∷ [])) (or_right (is_among flags other) _ (or_left (same_name flag other) _ h))
raised_after flags (Call call) = tt
raised_after flags (Await flag) = tt
raised_after flags Stop = tt
raised_after flags Restart = tt

pub raised_within : (flags more : List (List ℕ)) (deed : Deed) → Within flags more → IsRaised flags deed → IsRaised more deed
raised_within flags more (Raise flag) within raised = λ other h. within other (raised other h)
raised_within flags more (Call call) within raised = tt
raised_within flags more (Await flag) within raised = tt
raised_within flags more Stop within raised = tt
raised_within flags more Restart within raised = tt

-- all flags that lines raise are raised after them
pub raised_from : (flags : List (List ℕ)) (lines : List Line) → AllByRecursion (λ line. IsRaised (flags_from flags lines) line.deed) lines
raised_from flags [] = tt
raised_from flags (line ∷ lines) =
    (raised_within (flags_after flags line.deed) (flags_from (flags_after flags line.deed) lines) line.deed (within_from (flags_after flags line.deed) lines) (raised_after flags line.deed), raised_from (flags_after flags line.deed) lines)

pub all_filtered : {X : Type 0} (P : X → Type 0) (test : X → Bool) (xs : List X) → AllByRecursion P xs → AllByRecursion P (filter test xs)
all_filtered P test [] h = tt
all_filtered P test (x ∷ xs) h = elim (test x) as (λ v. AllByRecursion P (cond v (x ∷ filter test xs) (filter test xs))) [
  | true ↦ (h.0, all_filtered P test xs h.1)
  | false ↦ all_filtered P test xs h.1
]

-- what can go by some flags can by more
pub goes_within : (flags more : List (List ℕ)) (deed : Deed) → Within flags more → can_go flags deed ≡ true → can_go more deed ≡ true
goes_within flags more (Await flag) within goes = within flag goes
goes_within flags more (Raise flag) within goes = refl
goes_within flags more (Call call) within goes = refl
goes_within flags more Stop within goes = refl
goes_within flags more Restart within goes = refl

pub pushed_within : (flags more : List (List ℕ)) (flag : List ℕ) → Within flags more → IsRaised more (Raise flag) → Within (flags ++ flag ∷ []) more
pushed_within flags more flag within raised other h =
    let either : (is_among flags other || (same_name flag other || false)) ≡ true = rw (list_any-append (λ f. same_name f other) flags (flag ∷ [])) at h in
    elim (or_cases (is_among flags other) (same_name flag other || false) either) [
      | inl old ↦ within other old
      | inr new ↦ elim (or_cases (same_name flag other) false new) [
        | inl same ↦ raised other same
        | inr wrong ↦ absurd (cc)
      ]
    ]

pub after_within : (flags more : List (List ℕ)) (deed : Deed) → Within flags more → IsRaised more deed → Within (flags_after flags deed) more
after_within flags more (Raise flag) within raised = pushed_within flags more flag within raised
after_within flags more (Call call) within raised = within
after_within flags more (Await flag) within raised = within
after_within flags more Stop within raised = within
after_within flags more Restart within raised = within

-- lines of which `left` are the last, while the flags of the others are raised
pub record IsAhead (flags : List (List ℕ)) (lines left : List Line) : Type 0 where
  pub gone : List Line
  pub are : lines ≡ gone ++ left
  pub raised : AllByRecursion (λ line. IsRaised flags line.deed) gone

-- where a line goes that comes first, it has gone before those that stand
pub first_gone : (flags : List (List ℕ)) (line : Line) (lines left gone : List Line) → can_go flags line.deed ≡ true → stands flags left ≡ true → line ∷ lines ≡ gone ++ left → AllByRecursion (λ line. IsRaised flags line.deed) gone → IsAhead flags lines left × IsRaised flags line.deed
first_gone flags line lines left [] goes stand are raised =
    let still : stands flags (line ∷ lines) ≡ true = rw (sym are) at stand in
    let wrong : not true ≡ true = rw goes at still in
    absurd (cc)
first_gone flags line lines left (first ∷ gone) goes stand are raised =
    let same : first ≡ line = cc in
    (record { gone = gone; are = cc; raised = raised.1 }, rw same at raised.0)

-- the same, for a line among those of a node
pub gone_in : (flags : List (List ℕ)) (line : Line) (mine : Bool) (lines rest left : List Line) → can_go flags line.deed ≡ true → stands flags left ≡ true → IsAhead flags (cond mine (line ∷ lines) lines ++ rest) left → IsAhead flags (lines ++ rest) left
gone_in flags line true lines rest left goes stand ahead = (first_gone flags line (lines ++ rest) left ahead.gone goes stand ahead.are ahead.raised).0
gone_in flags line false lines rest left goes stand ahead = ahead

pub raised_in : (flags : List (List ℕ)) (line : Line) (mine : Bool) (lines rest left : List Line) → mine ≡ true → can_go flags line.deed ≡ true → stands flags left ≡ true → IsAhead flags (cond mine (line ∷ lines) lines ++ rest) left → IsRaised flags line.deed
raised_in flags line true lines rest left e goes stand ahead = (first_gone flags line (lines ++ rest) left ahead.gone goes stand ahead.are ahead.raised).1
raised_in flags line false lines rest left e goes stand ahead = absurd (cc)

-- what is left in one order stays left while the lines of another go one by one
pub all_ahead : (other : List Line) (had flags : List (List ℕ)) (left rest : Node → List Line) → Within had flags → flags_met had other ≡ true → ((node : Node) → stands flags (left node) ≡ true) → ((node : Node) → IsAhead flags (filter (is_of node) other ++ rest node) (left node)) → (node : Node) → IsAhead flags (rest node) (left node)
all_ahead [] had flags left rest within met stand ahead = ahead
all_ahead (line ∷ other) had flags left rest within met stand ahead =
    let parts : (can_go had line.deed ≡ true) × (flags_met (flags_after had line.deed) other ≡ true) = and_parts (can_go had line.deed) (flags_met (flags_after had line.deed) other) met in
    let goes : can_go flags line.deed ≡ true = goes_within had flags line.deed within parts.0 in
    let raised : IsRaised flags line.deed = raised_in flags line (is_of line.node line) (filter (is_of line.node) other) (rest line.node) (left line.node) (same_itself line.node) goes (stand line.node) (ahead line.node) in
    all_ahead other (flags_after had line.deed) flags left rest (after_within had flags line.deed within raised) parts.1 stand
    (λ node. gone_in flags line (is_of node line) (filter (is_of node) other) (rest node) (left node) goes (stand node) (ahead node))

-- what one order leaves, the other leaves too
pub left_ahead : (lines went other : List Line) (left rest : Node → List Line) → IsBegun lines went left → IsBegun lines other rest → ((node : Node) → stands (flags_of went) (left node) ≡ true) → (node : Node) → IsAhead (flags_of went) (rest node) (left node)
left_ahead lines went other left rest begun also stand =
    all_ahead other [] (flags_of went) left rest (λ flag h. absurd (cc)) also.met stand
    (λ node. record {
      gone = filter (is_of node) went;
      are = also.each node ∙ sym (begun.each node);
      raised = all_filtered (λ line. IsRaised (flags_of went) line.deed) (is_of node) went (raised_from [] went);
    })

-- lists that end in one another are the same
pub same_ends : (xs ys more less : List Line) → xs ≡ more ++ ys → ys ≡ less ++ xs → ys ≡ xs
same_ends xs ys [] less e f = sym e
same_ends xs ys (x ∷ more) less e f =
    let long : length xs ≡ length ((x ∷ more) ++ ys) = ap length e in
    let also : length ys ≡ length (less ++ xs) = ap length f in
    absurd (omega (arith, simp length-append at long, simp length-append at also))

pub ends_empty : (xs more : List Line) → [] ≡ more ++ xs → xs ≡ []
ends_empty xs [] e = sym e
ends_empty xs (x ∷ more) e = absurd (cc)

pub same_left : OrdersLeaveTheSame
same_left lines went other left rest begun also stand stays node =
    let ahead : IsAhead (flags_of went) (rest node) (left node) = left_ahead lines went other left rest begun also stand node in
    let behind : IsAhead (flags_of other) (left node) (rest node) = left_ahead lines other went rest left also begun stays node in
    same_ends (rest node) (left node) ahead.gone behind.gone ahead.are behind.are

-- nothing is left where another order leaves nothing
pub none_left : (lines went order : List Line) (left : Node → List Line) → IsBegun lines went left → IsOrder lines order → ((node : Node) → stands (flags_of went) (left node) ≡ true) → (node : Node) → left node ≡ []
none_left lines went order left begun whole stand node =
    let ahead : IsAhead (flags_of went) [] (left node) = left_ahead lines went order left (λ _. []) begun (record { each = λ n. append-nil (filter (is_of n) order) ∙ whole.each n; met = whole.met }) stand node in
    ends_empty (left node) ahead.gone ahead.are
