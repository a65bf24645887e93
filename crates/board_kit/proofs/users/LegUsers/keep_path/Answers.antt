use Rattle.std.proofs.Common.{◌<◌, ℕ, Bool, length, ap, ◌∙◌, arith}
use Rattle.desk_data.specs.Paths.{no_pair}
use Rattle.board_kit.specs.Users.{has_user}
use Rattle.board_kit.proofs.UserLaws.{path_more}
use Rattle.board_kit.proofs.users.LegUsers.keep_path.Goals as goal

pub loop-pair-preserved : goal.loop-pair-preserved
unfolding no_pair
loop-pair-preserved c =
    let k = c.loop-pair.pair-index in
    let lt : k < length c.args.path.now = omega arith in
    record {
      legs = c.in_ok-keep.ensures.legs ∙ c.loop-pair.invariant.legs;
      users = λ x r.
          ap (λ (kept : ℕ → ℕ → Bool). kept x r) c.in_ok-keep.ensures.ok
          ∙ path_more (has_user c.loop-pair.self) (has_user c.args.self.now) c.args.path.now k c.args.res.0 no_pair lt c.loop-pair.invariant.users x r;
    }
