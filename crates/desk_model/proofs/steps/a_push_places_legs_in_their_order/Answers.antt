use Rattle.desk_model.proofs.PushLaws.{pushed-all, pushed-each, pushed-ordered, after_push-others, after_push-groups, after_push-other_plane}
use Rattle.desk_model.proofs.steps.a_push_places_legs_in_their_order.Goals as goal

pub returns : goal.returns
returns c = record {
  legs = pushed-all;
  each = pushed-each;
  order = pushed-ordered;
  others = after_push-others;
  groups = after_push-groups;
  nothing = after_push-other_plane;
}
