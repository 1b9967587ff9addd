-- What is under way belongs to something that is open or to the write-back, by the places of its tag.
use Rattle.std.proofs.Common.{◌≡◌, ℕ, ◌+◌, Bool, true, false, List, Some, None, cond, count_by, refl, sym, ◌∙◌, ap}
use Rattle.std.specs.Prelude.{◌&&◌, ◌==◌}
use Rattle.std.proofs.lemmas.Bool.{and_from, eq-eqb}
use Rattle.std.proofs.lemmas.Option.{same_Some}
use Rattle.cxl_message.specs.declared.channels.Channel.{Channel}
use Rattle.cxl_message.specs.declared.events.Event.{Event}
use Rattle.cxl_message.specs.Messages.{has_tag}
use Rattle.cxl_message.specs.Setup.{Configuration}
use Rattle.coherence_model.specs.Buffers.{buffered_requests, buffered_writes}
use Rattle.coherence_model.specs.Flight.{in_flight}
use Rattle.coherence_model.specs.OwnerFacts.{is_open_so, purpose_fits}
use Rattle.coherence_model.specs.RequestFacts.{is_ndr_with, ndr_count, writes_under_way}
use Rattle.coherence_model.specs.Tags.{open_with, tagged_line}
use Rattle.coherence_model.specs.Traces.{device, events_of}
use Rattle.coherence_model.specs.Transactions.{open_at}
use Rattle.coherence_model.specs.WriteBacks.{completes, is_write_back_open}
use Rattle.request_laws.proofs.AllPlaces.{PlacedAfter, placed}
use Rattle.request_laws.proofs.Balances.{balance_of}
use Rattle.request_laws.proofs.Counts.{count_by-append}
use Rattle.request_laws.proofs.HostPlaces.{nothing_has, tagged}
use Rattle.request_laws.proofs.OpenLines.{open_leads_back, tagged_found}
use Rattle.request_laws.proofs.OpenPlaced.{requests_named}
use Rattle.coherence_model.proofs.OwnRuns.{events_of_run}
use Rattle.request_laws.proofs.OwnRuns.{host_is_no_device}
use Rattle.request_laws.proofs.Places.{is_write_of}
use Rattle.request_laws.specs.PlaceLaws.{OtherWriteBacksAreNowhere, RequestsNameTheirLine, TasksHaveRequests, UnusedTagsAreNowhere, WriteBacksArePlaced}

pub requests_name_their_line : RequestsNameTheirLine
requests_name_their_line setup opening limits h host t run a o is =
    let agent = host_is_no_device setup limits h host in
    let back = open_leads_back setup opening h agent (events_of h t) (events_of_run setup opening h t run) a o is in
    requests_named setup h a t o (tagged_found (λ b. open_at b (events_of h t)) (λ b. tagged_line b (events_of h t)) a o is back.back) back.back (placed setup opening h o.tag agent t run)

-- the write-back tag
write_back_sum : (setup : Configuration) (h : ℕ) (t : List Event) (c : Bool) → is_write_back_open setup (events_of h t) ≡ c → open_with setup.tags (events_of h t) ≡ None → PlacedAfter setup h setup.tags t
    → count_by (is_write_of setup.tags) (writes_under_way h t) + ndr_count completes h setup.tags t ≡ cond c 1 0
write_back_sum setup h t c is none inv =
    ap (λ n. n + count_by (is_ndr_with completes setup.tags) (in_flight h Channel.Ndr t)) (count_by-append (is_write_of setup.tags) (in_flight h Channel.Rwd t) (buffered_writes h (events_of device t)))
    ∙ (balance_of (open_with setup.tags (events_of h t)) None none _ _ _ _ _ _ _ inv.balanced).1
    ∙ ap (λ b. cond (b && is_write_back_open setup (events_of h t)) 1 0) (eq-eqb setup.tags setup.tags refl) ∙ ap (λ b. cond b 1 0) is

pub write_backs_are_placed : WriteBacksArePlaced
write_backs_are_placed setup opening limits h host t run is =
    let agent = host_is_no_device setup limits h host in
    write_back_sum setup h t true is (nothing_has setup (events_of h t) (open_leads_back setup opening h agent (events_of h t) (events_of_run setup opening h t run)) (open_with setup.tags (events_of h t)) refl) (placed setup opening h setup.tags agent t run)

pub other_write_backs : OtherWriteBacksAreNowhere
other_write_backs setup opening limits h host t run is =
    let agent = host_is_no_device setup limits h host in
    write_back_sum setup h t false is (nothing_has setup (events_of h t) (open_leads_back setup opening h agent (events_of h t) (events_of_run setup opening h t run)) (open_with setup.tags (events_of h t)) refl) (placed setup opening h setup.tags agent t run)

pub unused_tags : UnusedTagsAreNowhere
unused_tags setup opening limits h host t run tag is =
    let inv = placed setup opening h tag (host_is_no_device setup limits h host) t run in
    let none = balance_of (open_with tag (events_of h t)) None is _ _ _ _ _ _ _ inv.balanced in
    record {
      requests = count_by-append (has_tag tag) (in_flight h Channel.Req t) (buffered_requests h (events_of device t)) ∙ none.0;
      granted = none.2;
      data_sent = none.3;
    }

pub tasks_have_requests : TasksHaveRequests
tasks_have_requests setup opening limits h host t run tag a task there its =
    let fits = (placed setup opening h tag (host_is_no_device setup limits h host) t run).tasks a task there its in
    let open_there = tagged (λ b. open_at b (events_of h t)) (λ b. tagged_line b (events_of h t)) tag fits.x fits.there in
    let line = same_Some open_there.l a (sym open_there.named ∙ fits.at_line) in
    let at_line : open_at a (events_of h t) ≡ Some fits.x = ap (λ l. open_at l (events_of h t)) (sym line) ∙ open_there.there in
    ap (is_open_so (purpose_fits task.purpose) tag) at_line ∙ and_from (purpose_fits task.purpose fits.x.kind) (fits.x.tag == tag) fits.purpose (eq-eqb fits.x.tag tag open_there.tagged)
