-- What a host sees, and what is dirty, is what the journal's words say.
use Rattle.std.proofs.Common.{◌≡◌, ℕ, ◌&&◌, ◌||◌, ◌+◌, ◌-◌, not, nat_le, nat_lt, Bool, true, false, if◌then◌else◌}
use Rattle.std.proofs.Common.{◌≤◌, arith, suc, Some, None, is_some, List, [], ◌∷◌, length, inl, inr, sym, ◌∙◌, ap}
use Rattle.std.proofs.Common.{refl}
use Rattle.std.specs.List.{list_any}
use Rattle.std.specs.Prelude.{unwrap_or}
use Rattle.base_types.specs.Image.{byte_at}
use Rattle.base_types.specs.declared.ids.Fid.{Fid}
use Rattle.base_types.specs.declared.ids.HostId.{HostId}
use Rattle.tree_calls.specs.declared.call.Call.{Call}
use Rattle.tree_calls.specs.declared.call.Call.TheVariants.{Write}
use Rattle.need_host.specs.Looks.{View}
use Rattle.message_types.specs.declared.message.Body.{Body}
use Rattle.message_types.specs.declared.message.Body.TheVariants.{Grant}
use Rattle.script_lines.specs.declared.script.Script.{Script}
use Rattle.tree_laws.specs.Parts.{Part, Seen}
use Rattle.tree_laws.specs.Parts.Part.{ByteAt, Size, Traits, Entries}
use Rattle.run_rules.specs.Past.{In}
use Rattle.run_rules.specs.Views.{after_answers, after_call, changed_by_writes as written_in_view, is_dirty, is_shown}
use Rattle.run_rules.specs.Views.{sees as host_sees, shown_by, told_by_body, told_by_cause as told_in_view}
use Rattle.run_rules.specs.Views.{view as host_view, writes_at, writes_byte, writes_to}
use Rattle.run_parts.specs.Contents.{Contents, view, sees, dirty}
use Rattle.run_contents.specs.Steps.{written_by, written_in, written_at, wrote, told_by, told_in, shown, HostRun}
use Rattle.run_contents.specs.Steps.{IsOfJournal}
use Rattle.run_rules.specs.declared.applied.Answer.{Answer}
use Rattle.run_rules.specs.declared.step.Cause.{Cause}
use Rattle.run_rules.specs.declared.step.Cause.TheVariants.{Message as Came}
use Rattle.run_rules.specs.declared.step.Step.{Step}

-- what a step shows
told_body : (b : Body) (v : View) (f : Fid) (p : Part) → unwrap_or (told_by b p) (v f p) ≡ told_by_body b v f p
told_body (Grant g) v f p = refl
told_body _ v f p = refl

told_cause : (c : Cause) (v : View) (f : Fid) (p : Part) → unwrap_or (told_in c p) (v f p) ≡ told_in_view c v f p
told_cause (Came m) v f p = told_body m.body v f p
told_cause _ v f p = refl

pub shown_view : (s : Step) (v : View) (f : Fid) (p : Part) → unwrap_or (shown s f p) (v f p) ≡ shown_by s v f p
shown_view s v f p = go (is_shown s f p)
  where
    go : (b : Bool) → unwrap_or (if b then told_in s.cause p else None) (v f p) ≡
        (if b then told_in_view s.cause v f p else v f p)
    go true = told_cause s.cause v f p
    go false = refl

-- what a write leaves
range : (b : Bool) (x y : ℕ) → unwrap_or (if b then Some x else None) y ≡ (if b then x else y)
range true x y = refl
range false x y = refl

leaves : (k : Call) (v : View) (f : Fid) (p : Part)
    → unwrap_or (written_at (written_by k) (v f Size) p) (v f p) ≡ after_call k p (v f p)
leaves (Write place from bytes) v f (ByteAt at) =
    range (nat_le from at && nat_lt at (from + length bytes)) (byte_at bytes (at - from)) (v f (ByteAt at))
leaves (Write place from bytes) v f Size =
    range (nat_lt (v f Size) (from + length bytes)) (from + length bytes) (v f Size)
leaves (Write place from bytes) v f Traits = refl
leaves (Write place from bytes) v f Entries = refl
leaves _ v f p = refl

twice : (b : Bool) (x y : ℕ) → (if b then x else (if b then x else y)) ≡ (if b then x else y)
twice true x y = refl
twice false x y = refl

same_both : (b : Bool) (x : ℕ) → (if b then x else x) ≡ x
same_both true x = refl
same_both false x = refl

size_twice : (n x : ℕ) → (if nat_lt (if nat_lt x n then n else x) n then n else (if nat_lt x n then n else x)) ≡
    (if nat_lt x n then n else x)
size_twice n x = go (nat_lt x n) refl
  where
    go : (b : Bool) → nat_lt x n ≡ b
        → (if nat_lt (if b then n else x) n then n else (if b then n else x)) ≡ (if b then n else x)
    go true e = same_both (nat_lt n n) n
    go false e = ap (λ (b : Bool). if b then n else x) e

-- a write that is made again changes nothing
again : (k : Call) (p : Part) (x : Seen p) → after_call k p (after_call k p x) ≡ after_call k p x
again (Write place from bytes) (ByteAt at) x =
    twice (nat_le from at && nat_lt at (from + length bytes)) (byte_at bytes (at - from)) x
again (Write place from bytes) Size x = size_twice (from + length bytes) x
again (Write place from bytes) Traits x = refl
again (Write place from bytes) Entries x = refl
again _ p x = refl

after_all : (a : Answer) (rest : List Answer) (p : Part) (x : Seen p) → ((b : Answer) → In b rest → b ≡ a)
    → after_answers rest p (after_call a.call p x) ≡ after_call a.call p x
after_all a [] p x one = refl
after_all a (b ∷ rest) p x one =
    ap (λ (z : Answer). after_answers rest p (after_call z.call p (after_call a.call p x))) (one b (inl refl))
    ∙ (ap (λ y. after_answers rest p y) (again a.call p x) ∙ after_all a rest p x (λ z m. one z (inr m)))

abbrev pub AnswersOne : Step → Type 0
AnswersOne s = (a b : Answer) → In a s.answers → In b s.answers → a ≡ b

written_view : (s : Step) (v : View) (f : Fid) (p : Part) → AnswersOne s
    → unwrap_or (if writes_to s f then written_at (written_in s.answers) (v f Size) p else None)
    (v f p) ≡ written_in_view s v f p
written_view s v f p one = go (writes_to s f) s.answers one
  where
    go : (b : Bool) (answers : List Answer) → ((x y : Answer) → In x answers → In y answers → x ≡ y)
        → unwrap_or (if b then written_at (written_in answers) (v f Size) p else None) (v f p) ≡
        (if b then after_answers answers p (v f p) else v f p)
    go false answers one = refl
    go true [] one = refl
    go true (a ∷ rest) one = leaves a.call v f p ∙ sym (after_all a rest p (v f p) (λ b m. one b a (inr m) (inl refl)))

some_if : (b : Bool) (x : ℕ) → is_some (if b then Some x else None) ≡ b
some_if true x = refl
some_if false x = refl

byte_some : (k : Call) (size at : ℕ) → is_some (written_at (written_by k) size (ByteAt at)) ≡ writes_byte k at
byte_some (Write place from bytes) size at =
    some_if (nat_le from at && nat_lt at (from + length bytes)) (byte_at bytes (at - from))
byte_some _ size at = refl

any_rest : (a : Answer) (rest : List Answer) (at : ℕ) → ((b : Answer) → In b rest → b ≡ a)
    → (writes_byte a.call at || list_any (λ (z : Answer). writes_byte z.call at) rest) ≡ writes_byte a.call at
any_rest a rest at one = go (writes_byte a.call at) refl
  where
    none : (rest : List Answer) → writes_byte a.call at ≡ false → ((b : Answer) → In b rest → b ≡ a)
        → list_any (λ (z : Answer). writes_byte z.call at) rest ≡ false
    none [] e one = refl
    none (b ∷ bs) e one = ap (λ (q : Bool). q || list_any (λ (z : Answer). writes_byte z.call at) bs)
        (ap (λ (z : Answer). writes_byte z.call at) (one b (inl refl)) ∙ e) ∙ none bs e (λ z m. one z (inr m))

    go : (q : Bool) → writes_byte a.call at ≡ q → (q || list_any (λ (z : Answer). writes_byte z.call at) rest) ≡ q
    go true e = refl
    go false e = none rest e one

writes_same : (past : List Step) (s : Step) (f : Fid) (at : ℕ) → AnswersOne s
    → is_some (wrote past s f (ByteAt at)) ≡ writes_at s f at
writes_same past s f at one = go (writes_to s f) s.answers one
  where
    go : (b : Bool) (answers : List Answer) → ((x y : Answer) → In x answers → In y answers → x ≡ y)
        → is_some (if b then written_at (written_in answers) (host_sees past s f Size) (ByteAt at) else None) ≡
        (b && list_any (λ (z : Answer). writes_byte z.call at) answers)
    go false answers one = refl
    go true [] one = refl
    go true (a ∷ rest) one = byte_some a.call (host_sees past s f Size) at
        ∙ sym (any_rest a rest at (λ b m. one b a (inr m) (inl refl)))

-- a list of at most one has one alone
pub one_alone : (xs : List Answer) → length xs ≤ 1 → (a b : Answer) → In a xs → In b xs → a ≡ b
one_alone [] le a b m n = elim m [ ]
one_alone (x ∷ []) le a b (inl e) (inl d) = e ∙ sym d
one_alone (x ∷ []) le a b (inl e) (inr n) = elim n [ ]
one_alone (x ∷ []) le a b (inr m) n = elim m [ ]
one_alone (x ∷ y ∷ xs) le a b m n = absurd (let k : suc (suc (length xs)) ≤ 1 = le in omega (arith, k))

module _ (c : Contents) (same : IsOfJournal c) (script : Script) (host : HostId) where
  pub view_same : (past : List Step) → HostRun script host past → (f : Fid) (p : Part)
      → view c past f p ≡ host_view past f p
  view_same [] run f p = refl
  view_same (s ∷ past) run f p =
      let seen : sees c past s f p ≡ host_sees past s f p =
      ap (λ o. unwrap_or o (view c past f p)) (same.shown s f p)
      ∙ (ap (λ y. unwrap_or (shown s f p) y) (view_same past run.0 f p) ∙ shown_view s (host_view past) f p) in
      ap (λ o. unwrap_or o (sees c past s f p)) (same.wrote past s f p)
      ∙ (ap (λ y. unwrap_or (wrote past s f p) y) seen
      ∙ written_view s (host_sees past s) f p (one_alone s.answers run.1.answers.answers_one))

  pub sees_same : (past : List Step) → HostRun script host past → (s : Step) (f : Fid) (p : Part)
      → sees c past s f p ≡ host_sees past s f p
  sees_same past run s f p = ap (λ o. unwrap_or o (view c past f p)) (same.shown s f p)
      ∙ (ap (λ y. unwrap_or (shown s f p) y) (view_same past run f p) ∙ shown_view s (host_view past) f p)

  pub dirty_same : (past : List Step) → HostRun script host past → (f : Fid) (at : ℕ)
      → dirty c past f at ≡ is_dirty past f at
  dirty_same [] run f at = refl
  dirty_same (s ∷ past) run f at =
      ap (λ o. (is_some o || dirty c past f at) && not (c.hands s f at)) (same.wrote past s f (ByteAt at))
      ∙ (ap (λ b. (b || dirty c past f at) && not (c.hands s f at)) (writes_same past s f at (one_alone s.answers run.1.answers.answers_one))
      ∙ (ap (λ b. (writes_at s f at || b) && not (c.hands s f at)) (dirty_same past run.0 f at)
      ∙ ap (λ b. (writes_at s f at || is_dirty past f at) && not b) (same.hands s f at)))
