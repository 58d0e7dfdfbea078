mod ShapeLaws
mod LimitLaws
mod ReadingLaws
mod AnswerLaws
