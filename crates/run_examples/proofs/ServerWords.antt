-- What a server's doings tell, as plain data.
use Rattle.std.proofs.Common.{Bool, List, [], ap, false, inl, inr, refl, subst, sym, true}
use Rattle.std.proofs.Common.{if◌then◌else◌, ℕ, ◌&&◌, ◌++◌, ◌||◌, ◌==◌, ◌∷◌, ◌≡◌, ◌≤◌}
use Rattle.std.proofs.lemmas.Bool.{and_parts, and_from, or_cases, or_left, or_right, eqb-true, eq-eqb, leb-true, le-leb}
use Rattle.std.specs.Prelude.{not, nat_le}
use Rattle.base_types.specs.declared.ids.FilesetId.{FilesetId}
use Rattle.base_types.specs.declared.ids.HostId.{HostId}
use Rattle.base_types.specs.declared.ids.ServerId.{ServerId}
use Rattle.token_types.specs.declared.token.Token.{Token}
use Rattle.message_types.specs.declared.giving.AppliedGive.{AppliedGive}
use Rattle.message_types.specs.declared.giving.Give.{Give}
use Rattle.message_types.specs.declared.giving.Reclaim.{Reclaim as ReclaimOf}
use Rattle.message_types.specs.declared.message.Body.TheVariants.{Hello, Grant, Done, GiveBack, Reclaim, Down, Bye}
use Rattle.run_rules.specs.Doings.{Doing, GoesAway, HasGoneAway, HasGoneDown, HasReclaimed, Hears, Here, IsApplied}
use Rattle.run_rules.specs.Doings.{IsLive, IsNewEpoch, Listed, Slot, TakesOf, TookNow, epoch, slot_of}
use Rattle.run_rules.specs.Doings.Slot.{Absent, Arriving, Gone, Leaving, Writable}
use Rattle.run_rules.specs.Doings.Doing.{Admits, BeginsEpoch, Sent, Took}
use Rattle.run_rules.specs.Past.{In}
use Rattle.run_rules.specs.declared.applied.Request.TheVariants.{Change as Changes, Fetch as Asks}
use Rattle.run_rules.specs.declared.applied.Request.{Request}
use Rattle.run_examples.proofs.Tests.{is_not, not_is, in_front, in_back}
use Rattle.run_examples.proofs.Tests.{same_host, host_is, hosts, same_server, server_is, servers}
use Rattle.run_examples.proofs.Tests.{same_fileset}
use Rattle.run_examples.proofs.Tests.{fileset_is, filesets, same_is}

unfoldable pub takes_down : HostId → Doing → Bool
takes_down h (Took host e n Down) = same_host host h
takes_down h _ = false

unfoldable pub takes_hello : HostId → Doing → Bool
takes_hello h (Took host e n Hello) = same_host host h
takes_hello h _ = false

down_heard : (h : HostId) (a : Doing) → takes_down h a ≡ true → Hears a h Down
unfolding takes_down takes_hello
down_heard h (Took host e n Down) t = (e, n, (let p = host_is host h t in λ i. Took (p i) e n Down))
down_heard h a t = absurd (cc)

heard_down : (h : HostId) (a : Doing) → Hears a h Down → takes_down h a ≡ true
unfolding takes_down takes_hello
heard_down h a (e, n, is) = subst (λ x. takes_down h x ≡ true) (sym is) (hosts h h refl)

hello_heard : (h : HostId) (a : Doing) → takes_hello h a ≡ true → Hears a h Hello
unfolding takes_down takes_hello
hello_heard h (Took host e n Hello) t = (e, n, (let p = host_is host h t in λ i. Took (p i) e n Hello))
hello_heard h a t = absurd (cc)

heard_hello : (h : HostId) (a : Doing) → Hears a h Hello → takes_hello h a ≡ true
unfolding takes_down takes_hello
heard_hello h a (e, n, is) = subst (λ x. takes_hello h x ≡ true) (sym is) (hosts h h refl)

unfoldable pub down : List Doing → HostId → Bool
down [] h = false
down (a ∷ past) h = takes_down h a || down past h

pub down_yes : (past : List Doing) (h : HostId) → down past h ≡ true → HasGoneDown past h
unfolding takes_down takes_hello down
down_yes [] h t = absurd (cc)
down_yes (a ∷ past) h t =
    elim (or_cases (takes_down h a) (down past h) t) [
      | inl p ↦ inl (down_heard h a p)
      | inr p ↦ inr
          (down_yes past h p)
    ]

pub down_is : (past : List Doing) (h : HostId) → HasGoneDown past h → down past h ≡ true
unfolding takes_down takes_hello down
down_is [] h x = elim x [ ]
down_is (a ∷ past) h (inl x) = or_left (takes_down h a) (down past h) (heard_down h a x)
down_is (a ∷ past) h (inr x) = or_right (takes_down h a) (down past h) (down_is past h x)

unfoldable pub listed : List Doing → HostId → Bool
listed [] h = false
listed (a ∷ past) h = (takes_hello h a && (not (listed past h) && not (down past h))) || listed past h

listed_parts : (past : List Doing) (h : HostId) → ((listed past h ≡ true) → Listed past h) × (Listed past h
    → listed past h ≡ true)
unfolding takes_down takes_hello down listed
listed_parts [] h = (λ t. absurd (cc), λ x. elim x [ ])
listed_parts (a ∷ past) h =
    let r = listed_parts past h in (
      λ t.
          elim (or_cases (takes_hello h a && (not (listed past h) && not (down past h))) (listed past h) t) [
            | inl p ↦ (
                let q = and_parts (takes_hello h a) (not (listed past h) && not (down past h)) p in
                let u = and_parts (not (listed past h)) (not (down past h)) q.1 in
                inl (
                  hello_heard h a q.0,
                  λ x. is_not (listed past h) u.0 (r.1 x),
                  λ x. is_not (down past h) u.1
                      (down_is past h x),
                )
                )
            | inr p ↦ inr (r.0 p)
          ],
      λ x.
          elim x [
            | inl y ↦ or_left (takes_hello h a && (not (listed past h) && not (down past h))) (listed past h)
                (and_from (takes_hello h a) (not (listed past h) && not (down past h)) (heard_hello h a y.0)
                (and_from (not (listed past h)) (not (down past h)) (not_is (listed past h) (λ e. y.1 (r.0 e)))
                (not_is (down past h) (λ e. y.2 (down_yes past h e)))))
            | inr y ↦ or_right (takes_hello h a && (not (listed past h) && not (down past h))) (listed past h) (r.1 y)
          ],
    )

pub listed_yes : (past : List Doing) (h : HostId) → listed past h ≡ true → Listed past h
unfolding takes_down takes_hello down listed
listed_yes past h t = (listed_parts past h).0 t

pub listed_is : (past : List Doing) (h : HostId) → Listed past h → listed past h ≡ true
unfolding takes_down takes_hello down listed
listed_is past h x = (listed_parts past h).1 x

-- who has gone away
unfoldable pub takes_bye : HostId → ℕ → Doing → Bool
takes_bye h now (Took host e n Bye) = same_host host h && (e == now)
takes_bye h now _ = false

bye_taken : (h : HostId) (now : ℕ) (a : Doing) → takes_bye h now a ≡ true → (n : ℕ) × (a ≡ Took h now n Bye)
unfolding takes_down takes_hello down listed takes_bye
bye_taken h now (Took host e n Bye) t =
    let p = and_parts (same_host host h) (e == now) t in
    let q = host_is host h p.0 in
    let r = eqb-true e now p.1 in
    (n, λ i. Took (q i) (r i) n Bye)
bye_taken h now a t = absurd (cc)

taken_bye : (h : HostId) (now n : ℕ) (a : Doing) → a ≡ Took h now n Bye → takes_bye h now a ≡ true
unfolding takes_down takes_hello down listed takes_bye
taken_bye h now n a is =
    subst (λ x. takes_bye h now x ≡ true) (sym is) (and_from (same_host h h) (now == now) (hosts h h refl)
    (same_is now))

unfoldable pub goes_away : List Doing → Doing → HostId → Bool
goes_away past a h = takes_down h a || (takes_bye h (epoch past) a && (listed past h && not (down past h)))

pub away_yes_now : (past : List Doing) (a : Doing) (h : HostId) → goes_away past a h ≡ true → GoesAway past a h
unfolding takes_down takes_hello down listed takes_bye goes_away
away_yes_now past a h t =
    elim (or_cases (takes_down h a) (takes_bye h (epoch past) a && (listed past h && not (down past h))) t) [
      | inl p ↦ inl (down_heard h a p)
      | inr p ↦ (
          let q = and_parts (takes_bye h (epoch past) a) (listed past h && not (down past h)) p in
          let r = and_parts (listed past h) (not (down past h)) q.1 in
          inr (bye_taken h (epoch past) a q.0, listed_yes past h r.0, λ x. is_not (down past h) r.1 (down_is past h x))
          )
    ]

pub away_is_now : (past : List Doing) (a : Doing) (h : HostId) → GoesAway past a h → goes_away past a h ≡ true
unfolding takes_down takes_hello down listed takes_bye goes_away
away_is_now past a h (inl x) = or_left (takes_down h a) (takes_bye h (epoch past) a && (listed past h && not
    (down past h))) (heard_down h a x)
away_is_now past a h (inr ((n, is), l, d)) =
    or_right (takes_down h a) (takes_bye h (epoch past) a && (listed past h && not (down past h)))
    (and_from (takes_bye h (epoch past) a) (listed past h && not (down past h)) (taken_bye h (epoch past) n a is)
    (and_from (listed past h) (not (down past h)) (listed_is past h l) (not_is (down past h) (λ e. d
    (down_yes past h e)))))

unfoldable pub away : List Doing → HostId → Bool
away [] h = false
away (a ∷ past) h = goes_away past a h || away past h

pub away_yes : (past : List Doing) (h : HostId) → away past h ≡ true → HasGoneAway past h
unfolding takes_down takes_hello down listed takes_bye goes_away away
away_yes [] h t = absurd (cc)
away_yes (a ∷ past) h t =
    elim (or_cases (goes_away past a h) (away past h) t) [
      | inl p ↦ inl (away_yes_now past a h p)
      | inr p ↦ inr
          (away_yes past h p)
    ]

pub away_is : (past : List Doing) (h : HostId) → HasGoneAway past h → away past h ≡ true
unfolding takes_down takes_hello down listed takes_bye goes_away away
away_is [] h x = elim x [ ]
away_is (a ∷ past) h (inl x) = or_left (goes_away past a h) (away past h) (away_is_now past a h x)
away_is (a ∷ past) h (inr x) = or_right (goes_away past a h) (away past h) (away_is past h x)

unfoldable pub live : List Doing → HostId → Bool
live past h = listed past h && not (away past h)

pub live_yes : (past : List Doing) (h : HostId) → live past h ≡ true → IsLive past h
unfolding takes_down takes_hello down listed takes_bye goes_away away live
live_yes past h t =
    let p = and_parts (listed past h) (not (away past h)) t in
    (listed_yes past h p.0, λ x. is_not (away past h) p.1 (away_is past h x))

pub live_is : (past : List Doing) (h : HostId) → IsLive past h → live past h ≡ true
unfolding takes_down takes_hello down listed takes_bye goes_away away live
live_is past h (l, a) =
    and_from (listed past h) (not (away past h)) (listed_is past h l) (not_is (away past h) (λ e. a
    (away_yes past h e)))

-- the hosts that were heard
unfoldable pub heard_from : Doing → List HostId
heard_from (Took host e n b) = host ∷ []
heard_from _ = []

unfoldable pub heard : List Doing → List HostId
heard [] = []
heard (a ∷ past) = heard_from a ++ heard past

pub listed_heard : (past : List Doing) (h : HostId) → Listed past h → In h (heard past)
unfolding takes_down takes_hello down listed takes_bye goes_away away live heard_from heard
listed_heard [] h x = elim x [ ]
listed_heard (a ∷ past) h (inl x) =
    in_front h (heard_from a) (heard past) (subst (λ y. In h (heard_from y)) (sym x.0.2) (inl refl))
listed_heard (a ∷ past) h (inr x) = in_back h (heard_from a) (heard past) (listed_heard past h x)

-- who has reclaimed
unfoldable pub begins : Doing → Bool
begins (BeginsEpoch e) = true
begins _ = false

pub begin_yes : (a : Doing) → begins a ≡ true → IsNewEpoch a
unfolding takes_down takes_hello down listed takes_bye goes_away away live heard_from heard begins
begin_yes (BeginsEpoch e) t = (e, refl)
begin_yes a t = absurd (cc)

pub begin_is : (a : Doing) → IsNewEpoch a → begins a ≡ true
unfolding takes_down takes_hello down listed takes_bye goes_away away live heard_from heard begins
begin_is a (e, is) = subst (λ x. begins x ≡ true) (sym is) refl

unfoldable pub admits_host : HostId → Doing → Bool
admits_host h (Admits host ts) = same_host host h
admits_host h _ = false

admits_yes : (h : HostId) (a : Doing) → admits_host h a ≡ true → (ts : List Token) × (a ≡ Admits h ts)
unfolding takes_down takes_hello down listed takes_bye goes_away away live heard_from heard begins admits_host
admits_yes h (Admits host ts) t = (ts, (let p = host_is host h t in λ i. Admits (p i) ts))
admits_yes h a t = absurd (cc)

unfoldable pub reclaimed : List Doing → HostId → Bool
reclaimed [] h = false
reclaimed (a ∷ past) h =
    (admits_host h a || (takes_hello h a && (not (listed past h) && not (down past h)))) || (reclaimed past h && not
    (begins a))

pub reclaimed_yes : (past : List Doing) (h : HostId) → reclaimed past h ≡ true → HasReclaimed past h
unfolding takes_down takes_hello down listed takes_bye goes_away away live heard_from heard begins admits_host reclaimed
reclaimed_yes [] h t = absurd (cc)
reclaimed_yes (a ∷ past) h t =
    let n = takes_hello h a && (not (listed past h) && not (down past h)) in
    elim (or_cases (admits_host h a || n) (reclaimed past h && not (begins a)) t) [
      | inl p ↦
          elim (or_cases (admits_host h a) n p) [
            | inl q ↦ inl (inl (admits_yes h a q))
            | inr q ↦ (
                let r = and_parts (takes_hello h a) (not (listed past h) && not (down past h)) q in
                let u = and_parts (not (listed past h)) (not (down past h)) r.1 in
                let unlisted : Listed past h → ⊥ = λ x. is_not (listed past h) u.0 (listed_is past h x) in
                inl (inr (
                  inl (hello_heard h a r.0, unlisted, λ x. is_not (down past h) u.1 (down_is past h x)),
                  unlisted,
                ))
                )
          ]
      | inr p ↦ (let q = and_parts (reclaimed past h) (not (begins a)) p in inr (
        reclaimed_yes past h q.0,
        λ x. is_not (begins a) q.1 (begin_is a x),
      ))
    ]

pub reclaimed_is : (past : List Doing) (h : HostId) → HasReclaimed past h → reclaimed past h ≡ true
unfolding takes_down takes_hello down listed takes_bye goes_away away live heard_from heard begins admits_host reclaimed
reclaimed_is [] h x = elim x [ ]
reclaimed_is (a ∷ past) h (inl x) =
    let n = takes_hello h a && (not (listed past h) && not (down past h)) in
    or_left (admits_host h a || n) (reclaimed past h && not (begins a))
    (elim x [
      | inl y ↦ or_left (admits_host h a) n (subst (λ z. admits_host h z ≡ true) (sym y.1) (hosts h h refl))
      | inr (inl y, unlisted) ↦ or_right (admits_host h a) n
          (and_from (takes_hello h a) (not (listed past h) && not (down past h)) (heard_hello h a y.0)
          (and_from (not (listed past h)) (not (down past h)) (not_is (listed past h) (λ e. y.1
          (listed_yes past h e))) (not_is (down past h) (λ e. y.2 (down_yes past h e)))))
      | inr (inr y, unlisted) ↦ absurd (unlisted y)
    ])
reclaimed_is (a ∷ past) h (inr x) =
    or_right (admits_host h a || (takes_hello h a && (not (listed past h) && not (down past h))))
    (reclaimed past h && not (begins a))
    (and_from (reclaimed past h) (not (begins a)) (reclaimed_is past h x.0) (not_is (begins a) (λ e. x.1
    (begin_yes a e))))

-- give-backs that were taken, in whatever epoch
unfoldable pub is_writable : ℕ → Slot → Bool
is_writable n (Writable moves) = moves == n
is_writable n _ = false

unfoldable pub here : ServerId → List Doing → FilesetId → ℕ → Bool
here server past fs n = is_writable n (slot_of server past fs)

writable_yes : (n : ℕ) (slot : Slot) → is_writable n slot ≡ true → slot ≡ Writable n
unfolding is_writable
writable_yes n (Writable moves) t = ap Writable (eqb-true moves n t)
writable_yes n Absent t = absurd (cc)
writable_yes n (Leaving moves to ship) t = absurd (cc)
writable_yes n (Arriving moves from ship parts) t = absurd (cc)
writable_yes n (Gone moves to) t = absurd (cc)

writable_is : (n : ℕ) (slot : Slot) → slot ≡ Writable n → is_writable n slot ≡ true
unfolding is_writable
writable_is n slot e = subst (λ s. is_writable n s ≡ true) (sym e) (same_is n)

pub here_yes : (server : ServerId) (past : List Doing) (fs : FilesetId) (n : ℕ) → here server past fs n ≡ true
    → Here server past fs n
unfolding takes_down takes_hello down listed takes_bye goes_away away live heard_from heard begins admits_host
    reclaimed here
here_yes server past fs n t = writable_yes n (slot_of server past fs) t

unfoldable pub takes_give : ServerId → List Doing → HostId → AppliedGive → Doing → Bool
takes_give server past h number (Took host e n (GiveBack g)) =
    ((same_host host h && (e == epoch past)) && (live past h && here server past g.fid.fileset n))
    && (same_fileset g.fid.fileset number.fileset && nat_le number.number g.number)
takes_give server past h number _ = false

unfoldable pub applied : ServerId → List Doing → HostId → AppliedGive → Bool
applied server [] h number = false
applied server (a ∷ past) h number = takes_give server past h number a || applied server past h number

give_taken : (server : ServerId) (past : List Doing) (h : HostId) (number : AppliedGive) (a : Doing)
    → takes_give server past h number a ≡ true
    → (give : Give) × TakesOf server past a h number.fileset (GiveBack give) × (give.fid.fileset ≡ number.fileset)
    × (number.number ≤ give.number)
unfolding takes_down takes_hello down listed takes_bye goes_away away live heard_from heard begins admits_host
    reclaimed here takes_give applied
give_taken server past h number (Took host e n (GiveBack g)) t =
    let x = (same_host host h && (e == epoch past)) && (live past h && here server past g.fid.fileset n) in
    let p = and_parts x (same_fileset g.fid.fileset number.fileset && nat_le number.number g.number) t in
    let q = and_parts (same_host host h && (e == epoch past)) (live past h && here server past g.fid.fileset n) p.0 in
    let r = and_parts (same_host host h) (e == epoch past) q.0 in
    let u = and_parts (live past h) (here server past g.fid.fileset n) q.1 in
    let w = and_parts (same_fileset g.fid.fileset number.fileset) (nat_le number.number g.number) p.1 in
    let f = fileset_is g.fid.fileset number.fileset w.0 in
    let hh = host_is host h r.0 in
    let ee = eqb-true e (epoch past) r.1 in (
      g,
      (
        n,
        subst (λ x. Here server past x n) f (here_yes server past g.fid.fileset n u.1),
        (
          (λ i. Took (hh i)
              (ee i) n (GiveBack g)),
          live_yes past h u.0,
        ),
      ),
      f,
      leb-true number.number g.number w.1,
    )
give_taken server past h number a t = absurd (cc)

pub applied_yes : (server : ServerId) (past : List Doing) (h : HostId) (number : AppliedGive)
    → applied server past h number ≡ true
    → IsApplied server past h number
unfolding takes_down takes_hello down listed takes_bye goes_away away live heard_from heard begins admits_host
    reclaimed here takes_give applied
applied_yes server [] h number t = absurd (cc)
applied_yes server (a ∷ past) h number t =
    elim (or_cases (takes_give server past h number a) (applied server past h number) t) [
      | inl p ↦ inl (give_taken server past h number a p)
      | inr p ↦ inr (applied_yes server past h number p)
    ]

pub here_is : (server : ServerId) (past : List Doing) (fs : FilesetId) (n : ℕ) → Here server past fs n
    → here server past fs n ≡ true
unfolding takes_down takes_hello down listed takes_bye goes_away away live heard_from heard begins admits_host
    reclaimed here takes_give applied
here_is server past fs n e = writable_is n (slot_of server past fs) e

taken_give : (server : ServerId) (past : List Doing) (h : HostId) (number : AppliedGive) (a : Doing) (g : Give)
    → TakesOf server past a h number.fileset (GiveBack g) → g.fid.fileset ≡ number.fileset → number.number ≤ g.number
    → takes_give server past h number a ≡ true
unfolding takes_down takes_hello down listed takes_bye goes_away away live heard_from heard begins admits_host
    reclaimed here takes_give applied
taken_give server past h number a g (n, at, (is, l)) f k =
    subst (λ x. takes_give server past h number x ≡ true) (sym is)
    (and_from ((same_host h h && (epoch past == epoch past)) && (live past h && here server past g.fid.fileset n))
    (same_fileset g.fid.fileset number.fileset && nat_le number.number g.number)
    (and_from (same_host h h && (epoch past == epoch past)) (live past h && here server past g.fid.fileset n) (and_from
    (same_host h h) (epoch past == epoch past) (hosts h h refl) (same_is (epoch past)))
    (and_from (live past h) (here server past g.fid.fileset n) (live_is past h l) (here_is server past g.fid.fileset n (subst
    (λ x. Here server past x n) (sym f) at))))
    (and_from (same_fileset g.fid.fileset number.fileset) (nat_le number.number g.number)
    (filesets g.fid.fileset number.fileset f) (le-leb number.number g.number k)))

pub applied_is : (server : ServerId) (past : List Doing) (h : HostId) (number : AppliedGive)
    → IsApplied server past h number
    → applied server past h number ≡ true
unfolding takes_down takes_hello down listed takes_bye goes_away away live heard_from heard begins admits_host
    reclaimed here takes_give applied
applied_is server [] h number x = elim x [ ]
applied_is server (a ∷ past) h number (inl (g, x, f, k)) =
    or_left (takes_give server past h number a) (applied server past h number)
    (taken_give server past h number a g x f k)
applied_is server (a ∷ past) h number (inr x) =
    or_right (takes_give server past h number a) (applied server past h number) (applied_is server past h number x)

-- wants that wait: at most these
unfoldable pub decides : HostId → Doing → Request → Bool
decides h (Sent host e n (Grant g)) (Asks f) =
    same_host host h && (same_fileset g.bring.fid.fileset f.fid.fileset && (g.bring.number == f.number))
decides h (Sent host e n (Done d)) (Changes c) =
    same_host host h && (same_fileset d.fileset c.fileset && (d.bring.number == c.number))
decides h a r = false

-- no claim was taken in this epoch
unfoldable pub claims : Doing → Bool
claims (Took host e n (Reclaim claim)) = true
claims _ = false

-- the hosts whose claims were taken in this epoch
unfoldable pub claimant : Doing → List HostId
claimant (Took host e n (Reclaim claim)) = host ∷ []
claimant _ = []

unfoldable pub claimants : List Doing → List HostId
claimants [] = []
claimants (a ∷ past) = claimant a ++ (if begins a then [] else claimants past)

in_unless : {A : Type 0} (b : Bool) (x : A) (xs : List A) → (b ≡ true → ⊥) → In x xs → In x (if b then [] else xs)
in_unless true x xs unless m = absurd (unless refl)
in_unless false x xs unless m = m

pub claims_in : (past : List Doing) (h : HostId) (n : ℕ) (claim : ReclaimOf) → TookNow past h n (Reclaim claim)
    → In h (claimants past)
unfolding claimant claimants
claims_in [] h n claim x = elim x [ ]
claims_in (a ∷ past) h n claim (inl x) =
    in_front h (claimant a) (if begins a then [] else claimants past)
    (subst (λ y. In h (claimant y)) (sym x.0) (inl refl))
claims_in (a ∷ past) h n claim (inr x) =
    in_back h (claimant a) (if begins a then [] else claimants past)
    (in_unless (begins a) h (claimants past) (λ e. x.1 (begin_yes a e)) (claims_in past h n claim x.0))
