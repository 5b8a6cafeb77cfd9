-- The sites of the sorted openers, put in order, are those of the open handles.
use Rattle.std.proofs.Common.{◌≢◌, subst, map}
use Rattle.std.specs.List.Sorted.{IsPermutation}
use Rattle.htl_event.specs.Sites.{Site}
use Rattle.htl_answers.proofs.Opens.{IsRising-map}
use Rattle.htl_summary.specs.Openers.{opener_of}
use Rattle.htl_summary.proofs.SiteRows.{sites_listed}
use Rattle.htl_summary.proofs.by_stack.sites.Goals as goal

pub sites_of-requires : goal.sites_of-requires
sites_of-requires g c = rw c.deref.ensures.value c.sort_unstable.ensures.sorted

pub put_most_first-requires : goal.put_most_first-requires
put_most_first-requires g c =
    IsRising-map (λ (a b : Site). a.stack ≢ b.stack) (λ s t. s ≢ t) (λ site. site.stack) (λ a b apart. apart)
    c.in_ok-sites.sites.items c.in_ok-sites.ensures.apart

pub returns : goal.returns
returns g c = λ events are own.
    let openers = c.sort_unstable.new.self.items in
    let (handles, are_open, is) = c.in_ok-openers.ensures events own (c.in_ok-tables.ensures events are) in
    let moved : IsPermutation (map opener_of handles) openers = subst (λ l. IsPermutation l openers) is c.sort_unstable.ensures.permutation in
    record {
      handles = handles;
      are = are_open;
      stacks = sites_listed handles openers moved c.args.at_least c.in_ok-sites.sites.items c.put_most_first.new.rows.items
          (rw c.deref.ensures.value at c.in_ok-sites.ensures) c.put_most_first.ensures.rising c.put_most_first.ensures.members;
    }
